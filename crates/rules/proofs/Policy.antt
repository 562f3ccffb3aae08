-- The steps against the published ownership policy (specs/Published.antt): an accepted step does what the policy's
-- rules say, and one whose rules assert what does not hold is refused. Assumes nothing.
use mathlib.Core.Path.{◌≡◌, refl, sym, ap, subst, ◌∙◌}
use mathlib.Core.Logic.{◌⊎◌, inl, inr, ◌≢◌}
use mathlib.Core.List.{List, [], ◌∷◌}
use mathlib.Core.Bool.{Bool, true, false, cond}
use Prim.Native.Nat.{ℕ, ◌-◌, ◌≤◌, ◌<◌}
use native.Mathlib.Omega.{arith}
use native.Mathlib.Decide.{ℕ_discrete}
use lib.Dec.{eqb, leb}
use borrow.Author.Tests.{eqb-true, eq-eqb}
use lib.ListN.{length, get_or, set}
use lib.Seq.{get_or-set_same, get_or-set_other, lt-length-set}
use Rattle.words.specs.Words.{Form, ready_word, unmade_word, set_word, first_owned, owned_by}
use Rattle.words.specs.Lists.{In, top, pop}
use Rattle.rules.specs.Tables.{Tables, task_at, promise_at}
use Rattle.rules.specs.Refusals.{first, table_rows, entry_refusal, first_bad, new_rows, get_rows, own_rows, child_rows}
use Rattle.rules.specs.Steps.{Step, step_new, step_set, step_get, step_async, step_end, Outcome, outcome, given}
use Rattle.rules.specs.Steps.{with_started, Found, astray, back, free, walk_from, followed, got, guarded, started}
use Rattle.rules.specs.Steps.{rows, effect, raw, step}
use Rattle.rules.specs.Demands.{Refusal, plain}
use Rattle.rules.specs.Published.{NewRule, SetRule, SpawnRule, GetRule, EndRule, Asserted}
use Rattle.rules.specs.declared.Answer.{Answer}
use Rattle.rules.specs.declared.Answer.TheVariants.{Made, Set, Value, Blamed, Started, Ended}
use Rattle.rules.proofs.GuardLaws.{guarded_by, got_cases, started_by}
use Rattle.rules.proofs.Accepted.{entries_good}
use Rattle.rules.proofs.AnswerLaws.{at_with_refuses, step_refused_refuses}
use Rattle.rules.proofs.Named.{accepted}
use Rattle.words.proofs.BoolLaws.{clash}
use Rattle.rules.proofs.RefusalLaws.{actor_rows_none, child_rows_none, new_rows_none, get_rows_none, own_rows_none}
use Rattle.rules.proofs.StepMoves.{read_given, blame_miss}

pub new_rule : (F : Form) (n : ℕ) (s : Tables) (t p : ℕ) → (step F n s (step_new t p)).answer ≡ Made
    → NewRule s (step F n s (step_new t p)).after t p
new_rule F n s t p e =
    let (z, o) = accepted F n s (step_new t p) Made (λ r. elim r [ ]) e in
    let (act, z₁) = actor_rows_none s.tasks t (new_rows s.promises p) z in
    let (h, w) = new_rows_none s.promises p z₁ in
    subst (λ (x : Outcome). NewRule s x.after t p) (sym o)
    (record {
      fresh = λ d. d w;
      owner = get_or-set_same s.promises p (owned_by t) 0 h;
      others = λ q m. get_or-set_other s.promises p q (owned_by t) 0 m;
    })

-- and no task's word changes
pub new_tasks : (F : Form) (n : ℕ) (s : Tables) (t p : ℕ) → (step F n s (step_new t p)).answer ≡ Made
    → (step F n s (step_new t p)).after.tasks ≡ s.tasks
new_tasks F n s t p e =
    let (z, o) = accepted F n s (step_new t p) Made (λ r. elim r [ ]) e in ap (λ (x : Outcome). x.after.tasks) o

pub set_rule : (F : Form) (n : ℕ) (s : Tables) (t p m : ℕ) → (step F n s (step_set t p)).answer ≡ Set m
    → SetRule s (step F n s (step_set t p)).after t p
set_rule F n s t p m e =
    let (z, o) = accepted F n s (step_set t p) (Set m) (λ r. elim r [ ]) e in
    let (act, z₁) = actor_rows_none s.tasks t (own_rows F.base s.promises t p) z in
    let (h, w, z₂) = own_rows_none F.base s.promises t p [] z₁ in
    subst (λ (x : Outcome). SetRule s x.after t p) (sym o)
    (record {
      declared = λ (y : promise_at s p ≡ unmade_word). omega arith;
      unfulfilled = λ (y : promise_at s p ≡ set_word). omega arith;
      owner = w;
      fulfilled = get_or-set_same s.promises p set_word 0 h;
      others = λ q k. get_or-set_other s.promises p q set_word 0 k;
    })

past : {q x : ℕ} {l : List ℕ} → q ≢ x → In q (x ∷ l) → In q l
past n top = absurd (n refl)
past n (pop i) = i

-- what is listed reads the new word, also where it is listed again
given_in : (w : ℕ) (l ps : List ℕ) → ((q : ℕ) → In q l → q < length ps) → (q : ℕ) → (get_or ps q 0 ≡ w) ⊎ In q l
    → q < length ps → get_or (given w l ps) q 0 ≡ w
unfolding given
given_in w [] ps h q (inl e) b = e
given_in w [] ps h q (inr i) b = elim i [ ]
given_in w (x ∷ l) ps h q i b =
    given_in w l (set ps x w) (λ y k. lt-length-set ps x w (h y (pop k))) q (go i (ℕ_discrete q x))
    (lt-length-set ps x w b)
  where
    at_x : q ≡ x → get_or (set ps x w) q 0 ≡ w
    at_x e = ap (λ (y : ℕ). get_or (set ps x w) y 0) e ∙ get_or-set_same ps x w 0 (h x top)

    go : (get_or ps q 0 ≡ w) ⊎ In q (x ∷ l) → Dec (q ≡ x) → (get_or (set ps x w) q 0 ≡ w) ⊎ In q l
    go j (yes e) = inl (at_x e)
    go (inl e) (no n) = inl (get_or-set_other ps x q w 0 n ∙ e)
    go (inr k) (no n) = inr (past n k)

given_out : (w : ℕ) (l ps : List ℕ) → ((q : ℕ) → In q l → q < length ps) → (q : ℕ) → (In q l → ⊥)
    → get_or (given w l ps) q 0 ≡ get_or ps q 0
given_out w l ps h q n = go (read_given w l ps h q)
  where
    go : (get_or (given w l ps) q 0 ≡ get_or ps q 0) ⊎ (In q l × (get_or (given w l ps) q 0 ≡ w))
        → get_or (given w l ps) q 0 ≡ get_or ps q 0
    go (inl e) = e
    go (inr i) = absurd (n i.0)

module _ (F : Form) (n : ℕ) (s : Tables) (t c : ℕ) (list : List ℕ) where
  abbrev bad : ℕ
  bad = first_bad (entry_refusal F.base s.promises t list) (length list) 0

  -- async starts only where no place is bad
  started_good : (started F.base s t c list bad).answer ≡ Started
      → (length list ≤ bad) × ((started F.base s t c list bad).after ≡ with_started s c list)
  started_good =
      started_by (λ (o : Outcome). o.answer ≡ Started → (length list ≤ bad) × (o.after ≡ with_started s c list))
      F.base s t c list bad
      (λ h z. absurd (elim (subst Refusal z (at_with_refuses _ bad _)) [ ])) (λ h z. (h, refl))

  pub spawn_rule : (step F n s (step_async t c list)).answer ≡ Started
      → SpawnRule s (step F n s (step_async t c list)).after t c list
  spawn_rule e =
      let (z, o) = accepted F n s (step_async t c list) Started (λ r. elim r [ ]) e in
      let (h, a) = started_good (sym (ap (λ (x : Outcome). x.answer) o) ∙ e) in
      let good = entries_good F.base s t list h in
      subst (λ (x : Tables). SpawnRule s x t c list) (sym (ap (λ (x : Outcome). x.after) o ∙ a))
      (record {
        owner = λ q i. (good q i).1;
        handed = λ q i. given_in (owned_by c) list s.promises (λ x k. (good x k).0) q (inr i) (good q i).0;
        others = λ q m. given_out (owned_by c) list s.promises (λ x k. (good x k).0) q m;
      })

  -- the child is ready, and no other task's word changes
  pub spawn_tasks : (step F n s (step_async t c list)).answer ≡ Started
      → (task_at (step F n s (step_async t c list)).after c ≡ ready_word)
      × ((v : ℕ) → v ≢ c → task_at (step F n s (step_async t c list)).after v ≡ task_at s v)
  spawn_tasks e =
      let (z, o) = accepted F n s (step_async t c list) Started (λ r. elim r [ ]) e in
      let (h, a) = started_good (sym (ap (λ (x : Outcome). x.answer) o) ∙ e) in
      let (act, z₁) = actor_rows_none s.tasks t (child_rows s.tasks c) z in
      subst (λ (x : Tables). (task_at x c ≡ ready_word) × ((v : ℕ) → v ≢ c → task_at x v ≡ task_at s v))
      (sym (ap (λ (x : Outcome). x.after) o ∙ a)) (
        get_or-set_same s.tasks c ready_word 0 (child_rows_none s.tasks c z₁).0,
        λ v m. get_or-set_other s.tasks c v ready_word 0 m,
      )

-- a get answers value only where the word is that of a set promise
value_set : (B : ℕ) (s : Tables) (t p w : ℕ) → (got B s t p w).answer ≡ Value → w ≡ set_word
unfolding got followed
value_set B s t p w e = go (eqb w set_word) refl (leb B w) (walk_from s t (w - first_owned)) e
  where
    go : (x : Bool) → eqb w set_word ≡ x → (y : Bool) (f : Found)
        → (cond x (outcome Value s []) (cond y (outcome (Blamed (w - B)) s []) (followed s t p f))).answer ≡ Value
        → w ≡ set_word
    go true h y f z = eqb-true w set_word h
    go false h true f z = clash cc
    go false h false (back i) z = clash cc
    go false h false (free i) z = clash cc
    go false h false astray z = clash cc

-- and answers it there
set_value : (B : ℕ) (s : Tables) (t p w : ℕ) → w ≡ set_word → (got B s t p w).answer ≡ Value
unfolding got
set_value B s t p w e = rw (eq-eqb w set_word e)

-- a get that is not refused: it answers value exactly when the promise is set, and leaves the promise table whatever it
-- answers
pub get_rule : (F : Form) (n : ℕ) (s : Tables) (t p : ℕ) (a : Answer) → (Refusal a → ⊥)
    → (step F n s (step_get t p)).answer ≡ a
    → GetRule s (step F n s (step_get t p)).after p a
get_rule F n s t p a h e =
    let (z, o) = accepted F n s (step_get t p) a h e in
    let (act, z₁) = actor_rows_none s.tasks t (get_rows s.promises p) z in
    let (b, m) = get_rows_none s.promises p z₁ in
    let e₁ : (got F.base s t p (promise_at s p)).answer ≡ a = sym (ap (λ (x : Outcome). x.answer) o) ∙ e in
    subst (λ (x : Outcome). GetRule s x.after p a) (sym o)
    (record {
      declared = m;
      proceeds = λ v. value_set F.base s t p (promise_at s p) (e₁ ∙ v);
      fulfilled = λ f. sym e₁ ∙ set_value F.base s t p (promise_at s p) f;
      same = λ q. got_cases (λ (x : Outcome). promise_at x.after q ≡ promise_at s q) F.base s t p (promise_at s p)
          refl (λ b. refl) (λ k. refl) (λ k. refl);
    })

pub end_rule : (F : Form) (n : ℕ) (s : Tables) (t m k : ℕ) → (step F n s (step_end t)).answer ≡ Ended m k
    → EndRule s (step F n s (step_end t)).after t
end_rule F n s t m k e =
    let (z, o) = accepted F n s (step_end t) (Ended m k) (λ r. elim r [ ]) e in
    subst (λ (x : Outcome). EndRule s x.after t) (sym o)
    (record { same = λ none q. blame_miss F.base s t q (none q) })

-- ---- what the rules assert

-- async is refused at a place, or no place is bad
started_asserts : (B : ℕ) (s : Tables) (t c : ℕ) (list : List ℕ)
    → Refusal (started B s t c list (first_bad (entry_refusal B s.promises t list) (length list) 0)).answer
    ⊎ Asserted s (step_async t c list)
started_asserts B s t c list =
    started_by (λ (o : Outcome). Refusal o.answer ⊎ Asserted s (step_async t c list)) B s t c list _
    (λ h. inl (at_with_refuses _ _ _)) (λ h. inr (λ q i. (entries_good B s t list h q i).1))

-- a step by whose rows nothing is refused meets the asserts, or is refused for an entry of its list
asserts : (F : Form) (s : Tables) (x : Step) → first (rows F s x) ≡ 0 → Refusal (effect F s x).answer ⊎ Asserted s x
asserts F s (step_new t p) z =
    let (act, z₁) = actor_rows_none s.tasks t (new_rows s.promises p) z in
    let (h, w) = new_rows_none s.promises p z₁ in
    inr (λ d. d w)
asserts F s (step_set t p) z =
    let (act, z₁) = actor_rows_none s.tasks t (own_rows F.base s.promises t p) z in
    let (h, w, z₂) = own_rows_none F.base s.promises t p [] z₁ in
    inr (λ (y : promise_at s p ≡ unmade_word). omega arith, λ (y : promise_at s p ≡ set_word). omega arith, w)
asserts F s (step_get t p) z =
    let (act, z₁) = actor_rows_none s.tasks t (get_rows s.promises p) z in
    let (h, m) = get_rows_none s.promises p z₁ in
    inr m
asserts F s (step_async t c list) z = started_asserts F.base s t c list
asserts F s (step_end t) z = inr tt

-- a step is refused, or A holds, if A holds wherever no row applies and no entry is refused
pub refused_or : (F : Form) (n : ℕ) (s : Tables) (x : Step) (A : Type 0)
    → (first (rows F s x) ≡ 0 → Refusal (effect F s x).answer ⊎ A) → Refusal (step F n s x).answer ⊎ A
refused_or F n s x A h =
    by _ plain (first (table_rows F n s)) (raw F s x)
    (λ z. by _ (step_refused_refuses F s x) (first (rows F s x)) (effect F s x) h)
  where
    by : (f : ℕ → Answer) → ((q : ℕ) → Refusal (f q)) → (r : ℕ) (o : Outcome) → (r ≡ 0 → Refusal o.answer ⊎ A)
        → Refusal (guarded f r s o).answer ⊎ A
    by f refuses r o k = guarded_by (λ (x : Outcome). Refusal x.answer ⊎ A) f r s o (λ m. inl (refuses r)) k

pub refused_unless : {R A : Type 0} → R ⊎ A → (A → ⊥) → R
refused_unless (inl r) h = r
refused_unless (inr a) h = absurd (h a)

-- a step whose rules assert what does not hold is refused, from any tables
pub forbidden_refused : (F : Form) (n : ℕ) (s : Tables) (x : Step) → (Asserted s x → ⊥) → Refusal (step F n s x).answer
forbidden_refused F n s x h = refused_unless (refused_or F n s x (Asserted s x) (asserts F s x)) h
