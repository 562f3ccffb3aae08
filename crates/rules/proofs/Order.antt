-- Demand 1 over the definitions: a step is refused exactly when a row of the table applies, by the number of the first,
-- and a refusal changes nothing. The two guards of a step are one guard by all its rows. Assumes nothing.
use mathlib.Core.Path.{◌≡◌, refl, sym, ap, subst, ◌∙◌}
use mathlib.Core.Logic.{◌⊎◌, inl, inr, ◌≢◌}
use mathlib.Core.List.{List, [], ◌∷◌, ◌++◌}
use mathlib.Core.Bool.{Bool, true, false, cond, not}
use Prim.Native.Nat.{ℕ, zero, suc, ◌+◌, ◌≤◌, ◌<◌}
use native.Mathlib.Omega.{arith}
use native.Mathlib.Decide.{ℕ_discrete}
use lib.Dec.{eqb}
use borrow.Author.Tests.{eqb-false, eq-eqb, ne_eqb, lt-ltb}
use lib.ListN.{length, get_or, drop}
use Rattle.words.specs.Words.{Form}
use Rattle.words.specs.Lists.{In, top, pop}
use Rattle.words.proofs.BoolLaws.{clash}
use Rattle.words.proofs.ListLaws.{all_pass, in_passes, is_in, is_in_true, in_left, in_right}
use Rattle.rules.specs.Tables.{Tables, promise_at, blamed_task, in_bounds}
use Rattle.rules.specs.Sound.{sound_test}
use Rattle.rules.specs.Answers.{laid, number_of, values_of, by_number, refused_at_with}
use Rattle.rules.specs.Refusals.{Row, first, earlier, table_rows, entry_rows, entry_refusal, first_bad}
use Rattle.rules.specs.Steps.{Step, step_new, step_set, step_get, step_async, step_end, Outcome, outcome, got}
use Rattle.rules.specs.Steps.{guarded, entry_refused, started, rows, step_refused, effect, raw, step}
use Rattle.rules.specs.Demands.{numbers, paper_rows, paper_entry_rows, paper_numbers, step_numbers, FirstGiven, now}
use Rattle.rules.specs.Demands.{later, NoneGiven, no_row, not_this, BadPlace, Refusal, HowRefused, by_row}
use Rattle.rules.specs.Demands.{for_entry}
use Rattle.rules.specs.declared.Answer.{Answer}
use Rattle.rules.specs.declared.Answer.TheVariants.{Started, Refused}
use Rattle.rules.proofs.GuardLaws.{guarded_by, guarded_none, guarded_some, got_cases, started_by}
use Rattle.rules.proofs.AnswerLaws.{Accepted, accepted_or_refused, at_with_by, at_with_number, at_with_same}
use Rattle.rules.proofs.AnswerLaws.{at_with_refuses, at_with_plain, step_refused_refuses, step_refused_number}
use Rattle.rules.proofs.AnswerLaws.{step_refused_plain}
use Rattle.rules.proofs.PlaceLaws.{first_bad_place}
use Rattle.rules.proofs.RefusalLaws.{Numbered, row, first_append, actor_rows_numbered, first_bad_before}
use Rattle.rules.proofs.RefusalLaws as laws

-- ---- the rows of each step stand in the paper's order

pub papers_order : (F : Form) (n : ℕ) (s : Tables) (x : Step) → numbers (table_rows F n s ++ rows F s x) ≡ paper_rows x
papers_order F n s (step_new t p) = refl
papers_order F n s (step_set t p) = refl
papers_order F n s (step_get t p) = refl
papers_order F n s (step_async t c list) = refl
papers_order F n s (step_end t) = refl

-- those of its own, from 3 on
pub own_order : (F : Form) (s : Tables) (x : Step) → numbers (rows F s x) ≡ drop 2 (paper_rows x)
own_order F s x = ap (drop 2) (papers_order F 0 s x)

-- ---- the first row

pub first_given : (rows : List Row) (r : ℕ) → r ≢ 0 → first rows ≡ r → FirstGiven r rows
unfolding first
first_given [] r n e = absurd (n (sym e))
first_given ((q, true) ∷ rows) r n e = subst (λ (x : ℕ). FirstGiven x ((q, true) ∷ rows)) e now
first_given ((q, false) ∷ rows) r n e = later (first_given rows r n e)

pub given_first : {r : ℕ} {rows : List Row} → FirstGiven r rows → first rows ≡ r
unfolding first
given_first now = refl
given_first (later g) = given_first g

pub none_first : {rows : List Row} → NoneGiven rows → first rows ≡ 0
unfolding first
none_first no_row = refl
none_first (not_this g) = none_first g

pub first_none_given : {rows : List Row} → Numbered rows → first rows ≡ 0 → NoneGiven rows
unfolding first
first_none_given laws.no_row e = no_row
first_none_given (row {b = true} n rest) e = absurd (n e)
first_none_given (row {b = false} n rest) e = not_this (first_none_given rest e)

pub given_number : {rows : List Row} {r : ℕ} → Numbered rows → FirstGiven r rows → r ≢ 0
given_number laws.no_row g = elim g [ ]
given_number (row n rest) now = n
given_number (row n rest) (later g) = given_number rest g

-- ---- every row of every step has a number

pub numbered_append : {xs ys : List Row} → Numbered xs → Numbered ys → Numbered (xs ++ ys)
numbered_append laws.no_row b = b
numbered_append (row n rest) b = row n (numbered_append rest b)

two : {a b : Bool} (q r : ℕ) → q ≢ 0 → r ≢ 0 → Numbered ((q, a) ∷ (r, b) ∷ [])
two q r m n = row m (row n laws.no_row)

not_0 : (k : ℕ) → suc k ≢ 0
not_0 k e = omega arith

pub rows_numbered : (F : Form) (s : Tables) (x : Step) → Numbered (rows F s x)
rows_numbered F s (step_new t p) = numbered_append (actor_rows_numbered s.tasks t) (two 6 7 (not_0 5) (not_0 6))
rows_numbered F s (step_set t p) =
    numbered_append (actor_rows_numbered s.tasks t) (laws.own_rows_numbered F.base s.promises t p)
rows_numbered F s (step_get t p) = numbered_append (actor_rows_numbered s.tasks t) (two 6 8 (not_0 5) (not_0 7))
rows_numbered F s (step_async t c list) =
    numbered_append (actor_rows_numbered s.tasks t) (two 11 12 (not_0 10) (not_0 11))
rows_numbered F s (step_end t) = actor_rows_numbered s.tasks t

pub table_rows_numbered : (F : Form) (n : ℕ) (s : Tables) → Numbered (table_rows F n s)
table_rows_numbered F n s = two 1 2 (not_0 0) (not_0 1)

pub entry_rows_numbered : (B : ℕ) (ps : List ℕ) (t : ℕ) (list : List ℕ) (i : ℕ) → Numbered (entry_rows B ps t list i)
entry_rows_numbered B ps t list i = numbered_append (laws.own_rows_numbered B ps t _) (row (not_0 12) laws.no_row)

-- ---- two guards are one

guarded_twice : (f g : ℕ → Answer) (a b : ℕ) (s : Tables) (o : Outcome) → f a ≡ g a
    → guarded f a s (guarded g b s o) ≡ guarded g (earlier a b) s o
unfolding guarded earlier
guarded_twice f g a b s o k = go (eqb a 0) refl
  where
    go : (x : Bool) → eqb a 0 ≡ x
        → cond x (cond (eqb b 0) o (outcome (g b) s [])) (outcome (f a) s [])
        ≡ cond (eqb (cond x b a) 0) o (outcome (g (cond x b a)) s [])
    go true e = refl
    go false e = rw (e, k)

-- by the rows of both, in their order; f and g refuse by the rows of the first in the same way
pub guarded_joined : (f g : ℕ → Answer) {xs : List Row} (ys : List Row) (s : Tables) (o : Outcome) → Numbered xs
    → f (first xs) ≡ g (first xs)
    → guarded f (first xs) s (guarded g (first ys) s o) ≡ guarded g (first (xs ++ ys)) s o
guarded_joined f g {xs} ys s o m k =
    guarded_twice f g (first xs) (first ys) s o k ∙ ap (λ (r : ℕ). guarded g r s o) (sym (first_append ys m))

-- 1 and 2 are given by number alone
tables_not_17 : (F : Form) (n : ℕ) (s : Tables) → first (table_rows F n s) ≢ 17
unfolding first
tables_not_17 F n s = go (not (in_bounds F n s)) (not (sound_test F.base s))
  where
    go : (a b : Bool) → first ((1, a) ∷ (2, b) ∷ []) ≢ 17
    go true b e = absurd (omega arith)
    go false true e = absurd (omega arith)
    go false false e = absurd (omega arith)

pub tables_plain : (F : Form) (n : ℕ) (s : Tables) (x : Step)
    → Refused (first (table_rows F n s)) ≡ step_refused F s x (first (table_rows F n s))
tables_plain F n s x = sym (step_refused_plain F s x (first (table_rows F n s)) (tables_not_17 F n s))

-- a step is its effect, guarded by all its rows in their order
pub step_guarded : (F : Form) (n : ℕ) (s : Tables) (x : Step)
    → step F n s x ≡ guarded (step_refused F s x) (first (table_rows F n s ++ rows F s x)) s (effect F s x)
step_guarded F n s x =
    guarded_joined by_number (step_refused F s x) (rows F s x) s (effect F s x) (table_rows_numbered F n s)
    (tables_plain F n s x)

-- ---- what an effect answers

started_refuses_at : (B : ℕ) (s : Tables) (t c : ℕ) (list : List ℕ) (i r : ℕ)
    → (started B s t c list i).answer ≡ Refused r → ⊥
started_refuses_at B s t c list i r =
    started_by (λ (o : Outcome). o.answer ≡ Refused r → ⊥) B s t c list i
    (λ h. at_with_by (λ (a : Answer). a ≡ Refused r → ⊥) _ i _ (λ z k. clash cc) (λ z k. clash cc))
    (λ h (k : Started ≡ Refused r). clash cc)

-- an effect refuses for an entry of a list alone
pub effect_refuses_at : (F : Form) (s : Tables) (x : Step) (r : ℕ) → (effect F s x).answer ≡ step_refused F s x r → ⊥
effect_refuses_at F s (step_new t p) r e = clash cc
effect_refuses_at F s (step_set t p) r e = elim (subst Refusal (sym e) (step_refused_refuses F s (step_set t p) r)) [ ]
effect_refuses_at F s (step_get t p) r e =
    got_cases (λ (o : Outcome). o.answer ≡ Refused r → ⊥) F.base s t p (promise_at s p) (λ z. clash cc)
    (λ b z. clash cc) (λ k z. clash cc) (λ k z. clash cc) e
effect_refuses_at F s (step_async t c list) r e = started_refuses_at F.base s t c list _ r e
effect_refuses_at F s (step_end t) r e = clash cc

-- ---- refused exactly when, and by the first

-- a guard's refusal is its number, where the outcome behind it is no such refusal
guarded_number : (f : ℕ → Answer) → ((q : ℕ) → number_of (f q) ≡ q) → (g : ℕ) (s : Tables) (o : Outcome) (r : ℕ)
    → (o.answer ≡ f r → ⊥) → (guarded f g s o).answer ≡ f r → (g ≡ r) × (g ≢ 0)
guarded_number f number g s o r h e =
    guarded_by (λ (x : Outcome). x.answer ≡ f r → (g ≡ r) × (g ≢ 0)) f g s o
    (λ n k. (sym (number g) ∙ ap number_of k ∙ number r, n)) (λ z k. absurd (h k)) e

-- refused by the first of any rows
pub guarded_refused : (f : ℕ → Answer) → ((q : ℕ) → number_of (f q) ≡ q)
    → (xs : List Row) (s : Tables) (o : Outcome) (r : ℕ) → (o.answer ≡ f r → ⊥)
    → (guarded f (first xs) s o).answer ≡ f r → FirstGiven r xs
guarded_refused f number xs s o r h e =
    let (a, b) = guarded_number f number (first xs) s o r h e in first_given xs r (λ (z : r ≡ 0). b (a ∙ z)) a

pub guarded_first : (f : ℕ → Answer) {xs : List Row} (s : Tables) (o : Outcome) {r : ℕ} → Numbered xs → FirstGiven r xs
    → guarded f (first xs) s o ≡ outcome (f r) s []
guarded_first f {xs} s o m g =
    let e = given_first g in
    let n = given_number m g in
    guarded_some f (first xs) s o (λ (z : first xs ≡ 0). n (sym e ∙ z)) ∙ ap (λ (q : ℕ). outcome (f q) s []) e

pub refused_first : (F : Form) (n : ℕ) (s : Tables) (x : Step) (r : ℕ) → (step F n s x).answer ≡ step_refused F s x r
    → FirstGiven r (table_rows F n s ++ rows F s x)
refused_first F n s x r e =
    guarded_refused (step_refused F s x) (step_refused_number F s x) (table_rows F n s ++ rows F s x) s (effect F s x) r
    (effect_refuses_at F s x r)
    (sym (ap (λ (o : Outcome). o.answer) (step_guarded F n s x)) ∙ e)

pub first_refused : (F : Form) (n : ℕ) (s : Tables) (x : Step) (r : ℕ) → FirstGiven r (table_rows F n s ++ rows F s x)
    → step F n s x ≡ outcome (step_refused F s x r) s []
first_refused F n s x r g =
    step_guarded F n s x
    ∙ guarded_first (step_refused F s x) s (effect F s x)
    (numbered_append (table_rows_numbered F n s) (rows_numbered F s x)) g

-- ---- an entry of an async list

-- what is no refusal by number alone is not a guard's
guarded_placed : (s : Tables) (g : ℕ) (o : Outcome) (a : Answer) → ((q : ℕ) → Refused q ≡ a → ⊥)
    → (guarded by_number g s o).answer ≡ a → (g ≡ 0) × (o.answer ≡ a)
guarded_placed s g o a h e =
    guarded_by (λ (x : Outcome). x.answer ≡ a → (g ≡ 0) × (o.answer ≡ a)) by_number g s o (λ m k. absurd (h g k))
    (λ z k. (z, k)) e

-- the refusal at the first bad place is one
first_bad_bad : (f : ℕ → ℕ) (n i : ℕ) → first_bad f n i < i + n → f (first_bad f n i) ≢ 0
unfolding first_bad
first_bad_bad f zero i h = absurd (omega arith)
first_bad_bad f (suc n) i h = go (first_bad_bad f n (suc i)) (eqb (f i) 0) refl h
  where
    go : (first_bad f n (suc i) < suc i + n → f (first_bad f n (suc i)) ≢ 0) → (b : Bool) → eqb (f i) 0 ≡ b
        → cond b (first_bad f n (suc i)) i < i + suc n → f (cond b (first_bad f n (suc i)) i) ≢ 0
    go rec true e k = rec (omega arith)
    go rec false e k = eqb-false (f i) 0 e

-- a bad place with good ones before it is the first
first_bad_is : (f : ℕ → ℕ) (n i j : ℕ) → i ≤ j → j < i + n → ((k : ℕ) → i ≤ k → k < j → f k ≡ 0) → f j ≢ 0
    → first_bad f n i ≡ j
unfolding first_bad
first_bad_is f zero i j h k good bad = absurd (omega arith)
first_bad_is f (suc n) i j h k good bad = go (first_bad_is f n (suc i) j) (ℕ_discrete i j)
  where
    go : (suc i ≤ j → j < suc i + n → ((m : ℕ) → suc i ≤ m → m < j → f m ≡ 0) → f j ≢ 0 → first_bad f n (suc i) ≡ j)
        → Dec (i ≡ j) → cond (eqb (f i) 0) (first_bad f n (suc i)) i ≡ j
    go rec (yes z) = rw (ne_eqb (f i) 0 (λ (y : f i ≡ 0). bad (ap f (sym z) ∙ y))) z
    go rec (no m) =
        rw (eq-eqb (f i) 0 (good i (omega arith) (omega arith)))
        (rec (omega arith) (omega arith) (λ q a b. good q (omega arith) b) bad)

module _ (F : Form) (n : ℕ) (s : Tables) (t c : ℕ) (list : List ℕ) where
  abbrev refusal_of : ℕ → ℕ
  refusal_of = entry_refusal F.base s.promises t list

  abbrev bad : ℕ
  bad = first_bad refusal_of (length list) 0

  started_placed : (r i b : ℕ) → (started F.base s t c list bad).answer ≡ refused_at_with b i r
      → (bad < length list) × (bad ≡ i) × (refusal_of bad ≡ r)
      × (refusal_of bad ≡ 17 → blamed_task F.base s (get_or list bad 0) ≡ b)
  started_placed r i b =
      started_by
      (λ (o : Outcome).
      o.answer ≡ refused_at_with b i r → (bad < length list) × (bad ≡ i) × (refusal_of bad ≡ r)
      × (refusal_of bad ≡ 17 → blamed_task F.base s (get_or list bad 0) ≡ b))
      F.base s t c list bad (λ h z. let (x, y, told) = at_with_same z in (h, x, y, told))
      (λ h z. absurd (elim (subst Refusal (sym z) (at_with_refuses b i r)) [ ]))

  -- the guard refuses for no entry
  effect_placed : (r i b : ℕ) → (step F n s (step_async t c list)).answer ≡ refused_at_with b i r
      → (first (table_rows F n s ++ rows F s (step_async t c list)) ≡ 0)
      × ((started F.base s t c list bad).answer ≡ refused_at_with b i r)
  effect_placed r i b e =
      guarded_placed s _ (effect F s (step_async t c list)) (refused_at_with b i r)
      (λ q. at_with_by (λ (a : Answer). Refused q ≡ a → ⊥) b i r (λ y k. clash cc) (λ y k. clash cc))
      (sym (ap (λ (o : Outcome). o.answer) (step_guarded F n s (step_async t c list))) ∙ e)

  all_numbered : Numbered (table_rows F n s ++ rows F s (step_async t c list))
  all_numbered = numbered_append (table_rows_numbered F n s) (rows_numbered F s (step_async t c list))

  pub placed_first : (r i b : ℕ) → (step F n s (step_async t c list)).answer ≡ refused_at_with b i r
      → NoneGiven (table_rows F n s ++ rows F s (step_async t c list)) × BadPlace F.base s.promises t list r i
  unfolding entry_refusal
  placed_first r i b e =
      let (z, e₁) = effect_placed r i b e in
      let (h, k, a, told) = started_placed r i b e₁ in (
        first_none_given all_numbered z,
        record {
          within = subst (λ (j : ℕ). j < length list) k h;
          earlier = λ j m. first_none_given (entry_rows_numbered F.base s.promises t list j)
              (first_bad_before refusal_of (length list) 0 j (omega arith) (omega arith));
          given = first_given (entry_rows F.base s.promises t list i) r
              (λ (y : r ≡ 0). first_bad_bad refusal_of (length list) 0 (omega arith) (a ∙ y))
              (subst (λ (j : ℕ). refusal_of j ≡ r) k a);
        },
      )

  -- 17 is told with the task that its entry is blamed on
  pub placed_told : (i b : ℕ) → (step F n s (step_async t c list)).answer ≡ refused_at_with b i 17
      → blamed_task F.base s (get_or list i 0) ≡ b
  placed_told i b e =
      let (z, e₁) = effect_placed 17 i b e in
      let (h, k, a, told) = started_placed 17 i b e₁ in
      subst (λ (j : ℕ). blamed_task F.base s (get_or list j 0) ≡ b) k (told a)

  pub placed_within : (r i b : ℕ) → (step F n s (step_async t c list)).answer ≡ refused_at_with b i r
      → i ≤ length s.promises
  placed_within r i b e =
      let (z, e₁) = effect_placed r i b e in
      let (h, k, a, told) = started_placed r i b e₁ in
      subst (λ (j : ℕ). j ≤ length s.promises) k (first_bad_place F.base s.promises t list (length list))

  pub first_placed : (r i : ℕ) → NoneGiven (table_rows F n s ++ rows F s (step_async t c list))
      → BadPlace F.base s.promises t list r i
      → step F n s (step_async t c list) ≡ outcome (refused_at_with (blamed_task F.base s (get_or list i 0)) i r) s []
  unfolding entry_refusal started
  first_placed r i none p =
      let a : refusal_of i ≡ r = given_first p.given in
      let m : r ≢ 0 = given_number (entry_rows_numbered F.base s.promises t list i) p.given in
      let b : bad ≡ i =
      first_bad_is refusal_of (length list) 0 i (omega arith) (omega (arith, p.within))
      (λ k x y. none_first (p.earlier k y)) (λ (z : refusal_of i ≡ 0). m (sym a ∙ z)) in
      step_guarded F n s (step_async t c list)
      ∙ guarded_none _ _ s (effect F s (step_async t c list)) (none_first none)
      ∙ rw (b, lt-ltb i (length list) p.within, a)

-- ---- a refusal changes nothing

abbrev Unchanged : Tables → Outcome → Type 0
Unchanged s o = (o.after ≡ s) × (o.words ≡ [])

started_unchanged : (B : ℕ) (s : Tables) (t c : ℕ) (list : List ℕ) (i : ℕ) → Refusal (started B s t c list i).answer
    → Unchanged s (started B s t c list i)
started_unchanged B s t c list i =
    started_by (λ (o : Outcome). Refusal o.answer → Unchanged s o) B s t c list i (λ h r. (refl, refl))
    (λ h r. elim r [ ])

got_not_refusal : (B : ℕ) (s : Tables) (t p w : ℕ) → Refusal (got B s t p w).answer → ⊥
got_not_refusal B s t p w r =
    got_cases (λ (o : Outcome). Refusal o.answer → ⊥) B s t p w (λ r. elim r [ ]) (λ b r. elim r [ ])
    (λ k r. elim r [ ]) (λ k r. elim r [ ]) r

effect_unchanged : (F : Form) (s : Tables) (x : Step) → Refusal (effect F s x).answer → Unchanged s (effect F s x)
effect_unchanged F s (step_new t p) r = elim r [ ]
effect_unchanged F s (step_set t p) r = elim r [ ]
effect_unchanged F s (step_get t p) r = absurd (got_not_refusal F.base s t p (promise_at s p) r)
effect_unchanged F s (step_async t c list) r = started_unchanged F.base s t c list _ r
effect_unchanged F s (step_end t) r = elim r [ ]

guarded_unchanged : (f : ℕ → Answer) (g : ℕ) (s : Tables) (o : Outcome) → (Refusal o.answer → Unchanged s o)
    → Refusal (guarded f g s o).answer → Unchanged s (guarded f g s o)
guarded_unchanged f g s o h =
    guarded_by (λ (x : Outcome). Refusal x.answer → Unchanged s x) f g s o (λ m r. (refl, refl)) (λ z. h)

pub refusal_unchanged : (F : Form) (n : ℕ) (s : Tables) (x : Step) → Refusal (step F n s x).answer
    → ((step F n s x).after ≡ s) × ((step F n s x).words ≡ [])
refusal_unchanged F n s x =
    guarded_unchanged _ (first (table_rows F n s)) s (raw F s x)
    (guarded_unchanged _ (first (rows F s x)) s (effect F s x) (effect_unchanged F s x))

-- ---- every refusal is by a row, or for an entry

effect_how : (F : Form) (s : Tables) (x : Step) → Refusal (effect F s x).answer
    → HowRefused F s x (effect F s x).answer
effect_how F s (step_new t p) w = elim w [ ]
effect_how F s (step_set t p) w = elim w [ ]
effect_how F s (step_get t p) w = absurd (got_not_refusal F.base s t p (promise_at s p) w)
effect_how F s (step_async t c list) w =
    started_by (λ (o : Outcome). Refusal o.answer → HowRefused F s (step_async t c list) o.answer) F.base s t c
    list _ (λ h v. for_entry t c list _ _ _ refl) (λ h v. elim v [ ]) w
effect_how F s (step_end t) w = elim w [ ]

pub how_refused : (F : Form) (n : ℕ) (s : Tables) (x : Step) → Refusal (step F n s x).answer
    → HowRefused F s x (step F n s x).answer
how_refused F n s x =
    subst (λ (o : Outcome). Refusal o.answer → HowRefused F s x o.answer) (sym (step_guarded F n s x))
    (guarded_by (λ (o : Outcome). Refusal o.answer → HowRefused F s x o.answer) (step_refused F s x) _ s
    (effect F s x) (λ m w. by_row _) (λ z. effect_how F s x))

-- ---- the numbers and values of refusals

-- a step refused by r has the answer number r and, but for 17, no value
pub first_number : (F : Form) (n : ℕ) (s : Tables) (x : Step) (r : ℕ) → FirstGiven r (table_rows F n s ++ rows F s x)
    → (number_of (step F n s x).answer ≡ r) × (r ≢ 17 → values_of (step F n s x).answer ≡ [])
unfolding laid
first_number F n s x r g =
    let e = ap (λ (o : Outcome). o.answer) (first_refused F n s x r g) in
    (ap number_of e ∙ step_refused_number F s x r, λ m. ap values_of (e ∙ step_refused_plain F s x r m))

-- refused for an entry, it has the answer number r and, but for 17, the entry's place as its one value
pub placed_number : (F : Form) (n : ℕ) (s : Tables) (t c : ℕ) (list : List ℕ) (r i : ℕ)
    → NoneGiven (table_rows F n s ++ rows F s (step_async t c list))
    → BadPlace F.base s.promises t list r i
    → (number_of (step F n s (step_async t c list)).answer ≡ r)
    × (r ≢ 17 → values_of (step F n s (step_async t c list)).answer ≡ i ∷ [])
unfolding laid
placed_number F n s t c list r i none p =
    let e = ap (λ (o : Outcome). o.answer) (first_placed F n s t c list r i none p) in
    (ap number_of e ∙ at_with_number _ i r, λ m. ap values_of (e ∙ at_with_plain _ i r m))

-- every other answer has a number from 100 on
pub number_refuses : (a : Answer) → number_of a < 100 → Refusal a
number_refuses a h = go (accepted_or_refused a)
  where
    go : Accepted a ⊎ Refusal a → Refusal a
    go (inl c) = absurd (omega (arith, c.from_100))
    go (inr w) = w

-- ---- a step is refused by a number of its own

pub given_in : {r : ℕ} {rows : List Row} → FirstGiven r rows → In r (numbers rows)
given_in now = top
given_in (later g) = pop (given_in g)

rows_among : {r : ℕ} (x : Step) → In r (paper_rows x) → In r (paper_numbers x)
rows_among (step_new t p) i = i
rows_among (step_set t p) i = i
rows_among (step_get t p) i = i
rows_among (step_async t c list) i = in_left paper_entry_rows i
rows_among (step_end t) i = i

-- each is a number of the steps
papers_among : (x : Step) → all_pass (is_in step_numbers) (paper_numbers x) ≡ true
papers_among (step_new t p) = refl
papers_among (step_set t p) = refl
papers_among (step_get t p) = refl
papers_among (step_async t c list) = refl
papers_among (step_end t) = refl

-- for an entry by one of its rows
started_among : (F : Form) (s : Tables) (t c : ℕ) (list : List ℕ) → Refusal (effect F s (step_async t c list)).answer
    → In (number_of (effect F s (step_async t c list)).answer) paper_entry_rows
unfolding entry_refusal
started_among F s t c list =
    started_by (λ (o : Outcome). Refusal o.answer → In (number_of o.answer) paper_entry_rows) F.base s t c list
    bad entry (λ h w. elim w [ ])
  where
    refusal_of : ℕ → ℕ
    refusal_of = entry_refusal F.base s.promises t list

    bad : ℕ
    bad = first_bad refusal_of (length list) 0

    entry : bad < length list → Refusal (entry_refused F.base s t list bad)
        → In (number_of (entry_refused F.base s t list bad)) paper_entry_rows
    entry h w =
        subst (λ (q : ℕ). In q paper_entry_rows) (sym (at_with_number _ bad (refusal_of bad)))
        (given_in
        (first_given (entry_rows F.base s.promises t list bad) (refusal_of bad)
        (first_bad_bad refusal_of (length list) 0 (omega arith)) refl))

-- of the steps an async alone is refused by its effect
effect_among : (F : Form) (s : Tables) (x : Step) → Refusal (effect F s x).answer
    → In (number_of (effect F s x).answer) (paper_numbers x)
effect_among F s (step_new t p) w = elim w [ ]
effect_among F s (step_set t p) w = elim w [ ]
effect_among F s (step_get t p) w = absurd (got_not_refusal F.base s t p (promise_at s p) w)
effect_among F s (step_async t c list) w = in_right (paper_rows (step_async t c list)) (started_among F s t c list w)
effect_among F s (step_end t) w = elim w [ ]

pub own_number : (F : Form) (n : ℕ) (s : Tables) (x : Step) → Refusal (step F n s x).answer
    → In (number_of (step F n s x).answer) (paper_numbers x)
own_number F n s x =
    subst Own (sym (step_guarded F n s x))
    (guarded_by Own (step_refused F s x) r s (effect F s x) by_row (λ z. effect_among F s x))
  where
    r : ℕ
    r = first (table_rows F n s ++ rows F s x)

    Own : Outcome → Type 0
    Own o = Refusal o.answer → In (number_of o.answer) (paper_numbers x)

    by_row : r ≢ 0 → Own (outcome (step_refused F s x r) s [])
    by_row m w =
        let i =
        rows_among x
        (subst (In r) (papers_order F n s x) (given_in (first_given (table_rows F n s ++ rows F s x) r m refl))) in
        subst (λ (q : ℕ). In q (paper_numbers x)) (sym (step_refused_number F s x r)) i

-- a test that every number of the steps passes, the number of a step's refusal passes
pub refusal_passes : (f : ℕ → Bool) → all_pass f step_numbers ≡ true → (F : Form) (n : ℕ) (s : Tables) (x : Step)
    → Refusal (step F n s x).answer → f (number_of (step F n s x).answer) ≡ true
refusal_passes f e F n s x w =
    in_passes f e (is_in_true step_numbers _ (in_passes (is_in step_numbers) (papers_among x) (own_number F n s x w)))
