-- Laws of specs/Refusals.antt: what the first refusal says of the rows, and what no refusal says of the numbers of a
-- step. Assumes nothing.
use Prim.Native.Nat.{ℕ, zero, suc, ◌+◌, ◌-◌, ◌≤◌, ◌<◌}
use mathlib.Core.Path.{◌≡◌, refl, sym, ap, ◌∙◌}
use mathlib.Core.Logic.{◌≢◌, ⊎_elim}
use mathlib.Core.List.{List, [], ◌∷◌, ◌++◌}
use mathlib.Core.Bool.{Bool, true, false, cond, not}
use native.Mathlib.Omega.{arith}
use native.Mathlib.Decide.{ℕ_discrete}
use native.Mathlib.Numerals.{add-one}
use lib.Dec.{eqb, leb, ltb}
use borrow.Author.Tests.{eqb-true, eqb-false, ltb-true, leb-true, eq-eqb, ne_eqb, lt-ltb, le-leb, lt-leb}
use lib.ListN.{length, get_or}
use Rattle.words.specs.Words.{unused_word, ready_word, first_wait, unmade_word, set_word, owned_by}
use Rattle.words.specs.Lists.{all_below}
use Rattle.words.proofs.BoolLaws.{not_is_false, or_split, true_is_not_false}
use Rattle.words.proofs.ListLaws.{within_table}
use Rattle.rules.specs.Tables.{live, Live, waiting}
use Rattle.std.specs.Prelude.{Result, Ok, Err}
use Rattle.rules.specs.declared.Refusal.{Refusal}
use Rattle.rules.specs.declared.Refusal.TheVariants.{OutOfBounds, Damaged, NoTask, NotLive, Waits, NoPromise}
use Rattle.rules.specs.declared.Refusal.TheVariants.{AlreadyMade, NeverMade, AlreadySet, NotOwner, NoChild, ChildInUse}
use Rattle.rules.specs.declared.Refusal.TheVariants.{ListedTwice, BadLine, OutOfTurn, BadPart, Blamed}
use Rattle.rules.specs.Refusals.{refusal_number, refused_by}
use Rattle.rules.specs.Refusals.{Row, first, earlier, actor_rows, child_rows, new_rows, get_rows, own_rows}
use Rattle.rules.specs.Refusals.{entry_refusal, differs, first_bad}

-- no refusal has the number 0
pub number_not_0 : (r : Refusal) → refusal_number r ≢ 0
number_not_0 OutOfBounds = eqb-false 1 0 refl
number_not_0 Damaged = eqb-false 2 0 refl
number_not_0 NoTask = eqb-false 3 0 refl
number_not_0 NotLive = eqb-false 4 0 refl
number_not_0 Waits = eqb-false 5 0 refl
number_not_0 NoPromise = eqb-false 6 0 refl
number_not_0 AlreadyMade = eqb-false 7 0 refl
number_not_0 NeverMade = eqb-false 8 0 refl
number_not_0 AlreadySet = eqb-false 9 0 refl
number_not_0 NotOwner = eqb-false 10 0 refl
number_not_0 NoChild = eqb-false 11 0 refl
number_not_0 ChildInUse = eqb-false 12 0 refl
number_not_0 ListedTwice = eqb-false 13 0 refl
number_not_0 BadLine = eqb-false 14 0 refl
number_not_0 OutOfTurn = eqb-false 15 0 refl
number_not_0 BadPart = eqb-false 16 0 refl
number_not_0 Blamed = eqb-false 17 0 refl

-- a number is that of one refusal
numbered : List Refusal
numbered =
    OutOfBounds ∷ Damaged ∷ NoTask ∷ NotLive ∷ Waits ∷ NoPromise ∷ AlreadyMade ∷ NeverMade ∷ AlreadySet ∷ NotOwner
    ∷ NoChild ∷ ChildInUse ∷ ListedTwice ∷ BadLine ∷ OutOfTurn ∷ BadPart ∷ Blamed ∷ []

is_numbered : (r : Refusal) → r ≡ get_or numbered (refusal_number r - 1) OutOfBounds
unfolding numbered
is_numbered OutOfBounds = refl
is_numbered Damaged = refl
is_numbered NoTask = refl
is_numbered NotLive = refl
is_numbered Waits = refl
is_numbered NoPromise = refl
is_numbered AlreadyMade = refl
is_numbered NeverMade = refl
is_numbered AlreadySet = refl
is_numbered NotOwner = refl
is_numbered NoChild = refl
is_numbered ChildInUse = refl
is_numbered ListedTwice = refl
is_numbered BadLine = refl
is_numbered OutOfTurn = refl
is_numbered BadPart = refl
is_numbered Blamed = refl

pub one_refusal : (r q : Refusal) → refusal_number r ≡ refusal_number q → r ≡ q
one_refusal r q e = is_numbered r ∙ ap (λ n. get_or numbered (n - 1) OutOfBounds) e ∙ sym (is_numbered q)

-- so a function that answers nothing but whether it refuses has one answer
pub one_refused : (x y : Result (Unit {0}) Refusal) → refused_by x ≡ refused_by y → x ≡ y
one_refused (Ok u) (Ok v) e = refl
one_refused (Ok u) (Err q) e = absurd (number_not_0 q (sym e))
one_refused (Err r) (Ok u) e = absurd (number_not_0 r e)
one_refused (Err r) (Err q) e = ap Err (one_refusal r q e)

-- a row that is not the first that applies, and what follows it
pub first_past : {q : ℕ} (r : ℕ) (b : Bool) (rows : List Row) → r ≢ q → first ((r, b) ∷ rows) ≡ q
    → (b ≡ false) × (first rows ≡ q)
unfolding first
first_past r true rows n e = absurd (n e)
first_past r false rows n e = (refl, e)

-- a row that is the first that applies, where no later one has its number
pub first_hit : (r : ℕ) (b : Bool) (rows : List Row) → first rows ≢ r → first ((r, b) ∷ rows) ≡ r → b ≡ true
unfolding first
first_hit r true rows n e = refl
first_hit r false rows n e = absurd (n e)

-- no row has the number 0
pub data Numbered : List Row → Type 0 where
  no_row : Numbered []
  row : {r : ℕ} {b : Bool} {rows : List Row} → r ≢ 0 → Numbered rows → Numbered ((r, b) ∷ rows)

pub first_append : {xs : List Row} (ys : List Row) → Numbered xs → first (xs ++ ys) ≡ earlier (first xs) (first ys)
unfolding first earlier
first_append ys no_row = refl
first_append ys (row {r = r} {b = true} n rest) = rw (ne_eqb r 0 n)
first_append ys (row {b = false} n rest) = first_append ys rest

-- ---- refusals 1 and 2, by two tests

pub tests_past : {q : ℕ} (a b : Bool) (rows : List Row) → 1 ≢ q → 2 ≢ q → first ((1, not a) ∷ (2, not b) ∷ rows) ≡ q
    → (a ≡ true) × (b ≡ true) × (first rows ≡ q)
tests_past a b rows m n e =
    let (x, e₁) = first_past 1 (not a) _ m e in
    let (y, e₂) = first_past 2 (not b) _ n e₁ in
    (not_is_false a x, not_is_false b y, e₂)

-- ---- the acting task

pub record Acts (ts : List ℕ) (t : ℕ) : Type 0 where
  pub below : t < length ts
  pub ready : get_or ts t 0 ≡ ready_word

pub actor_rows_numbered : (ts : List ℕ) (t : ℕ) → Numbered (actor_rows ts t)
actor_rows_numbered ts t = row (eqb-false 3 0 refl) (row (eqb-false 4 0 refl) (row (eqb-false 5 0 refl) no_row))

live_not_waiting : (w : ℕ) → Live w → waiting w ≡ false → w ≡ ready_word
live_not_waiting w l n =
    ⊎_elim (λ (e : eqb w ready_word ≡ true). eqb-true w ready_word e)
    (λ (e : waiting w ≡ true). absurd (true_is_not_false (sym e ∙ n))) (or_split (eqb w ready_word) (waiting w) l)

pub actor_rows_past : {q : ℕ} (ts : List ℕ) (t : ℕ) (rows : List Row) → 3 ≢ q → 4 ≢ q → 5 ≢ q
    → first (actor_rows ts t ++ rows) ≡ q → Acts ts t × (first rows ≡ q)
actor_rows_past ts t rows three four five e =
    let (a, e₁) = first_past 3 (not (ltb t (length ts))) _ three e in
    let (b, e₂) = first_past 4 (not (live (get_or ts t 0))) _ four e₁ in
    let (c, e₃) = first_past 5 (waiting (get_or ts t 0)) _ five e₂ in (
      record {
        below = ltb-true t (length ts) (not_is_false (ltb t (length ts)) a);
        ready = live_not_waiting (get_or ts t 0) (not_is_false (live (get_or ts t 0)) b) c;
      },
      e₃,
    )

pub actor_rows_none : (ts : List ℕ) (t : ℕ) (rows : List Row) → first (actor_rows ts t ++ rows) ≡ 0
    → Acts ts t × (first rows ≡ 0)
actor_rows_none ts t rows e = actor_rows_past ts t rows (eqb-false 3 0 refl) (eqb-false 4 0 refl) (eqb-false 5 0 refl) e

-- a ready task may act
pub ready_acts : (ts : List ℕ) (t : ℕ) → get_or ts t 0 ≡ ready_word → (rows : List Row)
    → first (actor_rows ts t ++ rows) ≡ first rows
unfolding first
ready_acts ts t r rows =
    let b : t < length ts = within_table ts t (λ (z : get_or ts t 0 ≡ 0). omega arith) in
    rw (lt-ltb t (length ts) b, eq-eqb (get_or ts t 0) ready_word r, lt-leb first_wait (get_or ts t 0) (omega arith))

-- ---- the other numbers

pub child_rows_none : (ts : List ℕ) (c : ℕ) → first (child_rows ts c) ≡ 0
    → (c < length ts) × (get_or ts c 0 ≡ unused_word)
child_rows_none ts c e =
    let (a, e₁) = first_past 11 (not (ltb c (length ts))) _ (eqb-false 11 0 refl) e in
    let (b, e₂) = first_past 12 (not (eqb (get_or ts c 0) unused_word)) _ (eqb-false 12 0 refl) e₁ in (
      ltb-true c (length ts) (not_is_false (ltb c (length ts)) a),
      eqb-true (get_or ts c 0) unused_word (not_is_false (eqb (get_or ts c 0) unused_word) b),
    )

pub new_rows_none : (ps : List ℕ) (p : ℕ) → first (new_rows ps p) ≡ 0 → (p < length ps) × (get_or ps p 0 ≡ unmade_word)
new_rows_none ps p e =
    let (a, e₁) = first_past 6 (not (ltb p (length ps))) _ (eqb-false 6 0 refl) e in
    let (b, e₂) = first_past 7 (not (eqb (get_or ps p 0) unmade_word)) _ (eqb-false 7 0 refl) e₁ in (
      ltb-true p (length ps) (not_is_false (ltb p (length ps)) a),
      eqb-true (get_or ps p 0) unmade_word (not_is_false (eqb (get_or ps p 0) unmade_word) b),
    )

pub get_rows_none : (ps : List ℕ) (p : ℕ) → first (get_rows ps p) ≡ 0 → (p < length ps) × (get_or ps p 0 ≢ unmade_word)
get_rows_none ps p e =
    let (a, e₁) = first_past 6 (not (ltb p (length ps))) _ (eqb-false 6 0 refl) e in
    let (b, e₂) = first_past 8 (eqb (get_or ps p 0) unmade_word) _ (eqb-false 8 0 refl) e₁ in
    (ltb-true p (length ps) (not_is_false (ltb p (length ps)) a), eqb-false (get_or ps p 0) unmade_word b)

-- a promise that was made may be awaited
pub made_passes : (ps : List ℕ) (p : ℕ) → get_or ps p 0 ≢ unmade_word → first (get_rows ps p) ≡ 0
unfolding first
made_passes ps p m = rw (lt-ltb p (length ps) (within_table ps p m), ne_eqb (get_or ps p 0) unmade_word m)

pub own_rows_numbered : (B : ℕ) (ps : List ℕ) (t p : ℕ) → Numbered (own_rows B ps t p)
own_rows_numbered B ps t p =
    row (eqb-false 6 0 refl)
    (row (eqb-false 8 0 refl)
    (row (eqb-false 9 0 refl) (row (eqb-false 17 0 refl) (row (eqb-false 10 0 refl) no_row))))

pub own_rows_none : (B : ℕ) (ps : List ℕ) (t p : ℕ) (rows : List Row) → first (own_rows B ps t p ++ rows) ≡ 0
    → (p < length ps) × (get_or ps p 0 ≡ owned_by t) × (first rows ≡ 0)
own_rows_none B ps t p rows e =
    let (a, e₁) = first_past 6 (not (ltb p (length ps))) _ (eqb-false 6 0 refl) e in
    let (b, e₂) = first_past 8 (eqb (get_or ps p 0) unmade_word) _ (eqb-false 8 0 refl) e₁ in
    let (c, e₃) = first_past 9 (eqb (get_or ps p 0) set_word) _ (eqb-false 9 0 refl) e₂ in
    let (d, e₄) = first_past 17 (leb B (get_or ps p 0)) _ (eqb-false 17 0 refl) e₃ in
    let (f, e₅) = first_past 10 (not (eqb (get_or ps p 0) (owned_by t))) _ (eqb-false 10 0 refl) e₄ in (
      ltb-true p (length ps) (not_is_false (ltb p (length ps)) a),
      eqb-true (get_or ps p 0) (owned_by t) (not_is_false (eqb (get_or ps p 0) (owned_by t)) f),
      e₅,
    )

-- 9 is the first that applies: the promise is set
pub own_rows_nine : (B : ℕ) (ps : List ℕ) (t p : ℕ) (rows : List Row) → first rows ≢ 9
    → first (own_rows B ps t p ++ rows) ≡ 9 → get_or ps p 0 ≡ set_word
own_rows_nine B ps t p rows n e =
    let (a, e₁) = first_past 6 (not (ltb p (length ps))) _ (eqb-false 6 9 refl) e in
    let (b, e₂) = first_past 8 (eqb (get_or ps p 0) unmade_word) _ (eqb-false 8 9 refl) e₁ in
    eqb-true (get_or ps p 0) set_word (first_hit 9 (eqb (get_or ps p 0) set_word) _ later e₂)
  where
    later : first ((17, leb B (get_or ps p 0)) ∷ (10, not (eqb (get_or ps p 0) (owned_by t))) ∷ rows) ≢ 9
    later z =
        let (c, z₁) = first_past 17 (leb B (get_or ps p 0)) _ (eqb-false 17 9 refl) z in
        n (first_past 10 (not (eqb (get_or ps p 0) (owned_by t))) rows (eqb-false 10 9 refl) z₁).1

-- 17 is: it is blamed
pub own_rows_blamed : (B : ℕ) (ps : List ℕ) (t p : ℕ) (rows : List Row) → first rows ≢ 17
    → first (own_rows B ps t p ++ rows) ≡ 17 → B ≤ get_or ps p 0
own_rows_blamed B ps t p rows n e =
    let (a, e₁) = first_past 6 (not (ltb p (length ps))) _ (eqb-false 6 17 refl) e in
    let (b, e₂) = first_past 8 (eqb (get_or ps p 0) unmade_word) _ (eqb-false 8 17 refl) e₁ in
    let (c, e₃) = first_past 9 (eqb (get_or ps p 0) set_word) _ (eqb-false 9 17 refl) e₂ in
    leb-true B (get_or ps p 0) (first_hit 17 (leb B (get_or ps p 0)) _ later e₃)
  where
    later : first ((10, not (eqb (get_or ps p 0) (owned_by t))) ∷ rows) ≢ 17
    later z = n (first_past 10 (not (eqb (get_or ps p 0) (owned_by t))) rows (eqb-false 10 17 refl) z).1

-- and a promise that is set, or blamed, is refused by these
pub set_is_nine : (B : ℕ) (ps : List ℕ) (t p : ℕ) (rows : List Row) → get_or ps p 0 ≡ set_word
    → first (own_rows B ps t p ++ rows) ≡ 9
unfolding first
set_is_nine B ps t p rows e =
    let made : get_or ps p 0 ≢ 0 = λ (z : get_or ps p 0 ≡ 0). omega arith in
    rw (
      lt-ltb p (length ps) (within_table ps p made),
      ne_eqb (get_or ps p 0) unmade_word made,
      eq-eqb (get_or ps p 0) set_word e,
    )

pub blamed_is_17 : (B : ℕ) (ps : List ℕ) (t p : ℕ) (rows : List Row) → set_word < B → B ≤ get_or ps p 0
    → first (own_rows B ps t p ++ rows) ≡ 17
unfolding first
blamed_is_17 B ps t p rows f h =
    let made : get_or ps p 0 ≢ 0 = λ (z : get_or ps p 0 ≡ 0). omega arith in
    rw (
      lt-ltb p (length ps) (within_table ps p made),
      ne_eqb (get_or ps p 0) unmade_word made,
      ne_eqb (get_or ps p 0) set_word (λ (z : get_or ps p 0 ≡ set_word). omega arith),
      le-leb B (get_or ps p 0) h,
    )

-- an entry of an async list that nothing is wrong with
pub entry_refusal_none : (B : ℕ) (ps : List ℕ) (t : ℕ) (list : List ℕ) (i : ℕ) → entry_refusal B ps t list i ≡ 0
    → (get_or list i 0 < length ps) × (get_or ps (get_or list i 0) 0 ≡ owned_by t)
    × (all_below i (differs list (get_or list i 0)) ≡ true)
unfolding entry_refusal
entry_refusal_none B ps t list i e =
    let (a, b, e₁) = own_rows_none B ps t (get_or list i 0) _ e in
    let (c, e₂) = first_past 13 (not (all_below i (differs list (get_or list i 0)))) _ (eqb-false 13 0 refl) e₁ in
    (a, b, not_is_false (all_below i (differs list (get_or list i 0))) c)

-- ---- the first bad place; n - i places are left at i

pub first_bad_step : (f : ℕ → ℕ) (n i : ℕ) → i < n
    → first_bad f (n - i) i ≡ cond (eqb (f i) 0) (first_bad f (n - (i + 1)) (i + 1)) i
unfolding first_bad
first_bad_step f n i h = let e : n - i ≡ suc (n - (i + 1)) = omega arith in rw (e, add-one)

pub first_bad_end : (f : ℕ → ℕ) (n i : ℕ) → n ≤ i → first_bad f (n - i) i ≡ i
unfolding first_bad
first_bad_end f n i h = let e : n - i ≡ 0 = omega arith in rw e

-- every place before the first bad one is good
pub first_bad_before : (f : ℕ → ℕ) (n i j : ℕ) → i ≤ j → j < first_bad f n i → f j ≡ 0
unfolding first_bad
first_bad_before f zero i j h k = absurd (omega arith)
first_bad_before f (suc n) i j h k = go (first_bad_before f n (suc i) j) (eqb (f i) 0) refl k
  where
    at_i : (suc i ≤ j → j < first_bad f n (suc i) → f j ≡ 0) → f i ≡ 0 → j < first_bad f n (suc i) → Dec (j ≡ i)
        → f j ≡ 0
    at_i rec z m (yes e) = ap f e ∙ z
    at_i rec z m (no d) = rec (omega arith) m

    go : (suc i ≤ j → j < first_bad f n (suc i) → f j ≡ 0) → (b : Bool) → eqb (f i) 0 ≡ b
        → j < cond b (first_bad f n (suc i)) i → f j ≡ 0
    go rec true e m = at_i rec (eqb-true (f i) 0 e) m (ℕ_discrete j i)
    go rec false e m = absurd (omega arith)
