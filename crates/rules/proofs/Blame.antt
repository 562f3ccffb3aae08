-- Request 3 over the definitions: 17 is given for a blamed promise and tells the task that it is blamed on; 9 is given
-- for a set promise alone; the blame stays. Assumes nothing.
use mathlib.Core.Path.{◌≡◌, refl, sym, ap, subst, ◌∙◌}
use mathlib.Core.Logic.{◌≢◌}
use mathlib.Core.List.{List, [], ◌∷◌, ◌++◌}
use mathlib.Core.Bool.{not}
use Prim.Native.Nat.{ℕ, ◌+◌, ◌-◌, ◌<◌, ◌≤◌}
use native.Mathlib.Omega.{arith}
use borrow.Author.Tests.{eqb-false}
use lib.ListN.{length, get_or}
use Rattle.words.specs.Words.{Form, first_owned, ready_word, ended_word, set_word, blamed_on}
use Rattle.words.specs.Lists.{all_below}
use Rattle.words.proofs.BoolLaws.{clash}
use Rattle.rules.specs.Tables.{Tables, room_of, task_at, promise_at, blamed_task, in_bounds}
use Rattle.rules.specs.Chains.{view}
use Rattle.rules.specs.Sound.{PromiseWord, unmade, done, owned, blamed, sound_test}
use Rattle.rules.specs.Refusals.{Row, first, table_rows, own_rows, entry_rows, differs}
use Rattle.rules.specs.Answers.{refused_with, refused_at_with}
use Rattle.rules.specs.Steps.{step_set, step_async, actor, Outcome, outcome, rows, step_refused, effect, step}
use Rattle.rules.specs.Steps.{LentStep, run}
use Rattle.rules.specs.Demands.{Apart, Good, NoneGiven, BadPlace}
use Rattle.rules.specs.declared.Answer.{Answer}
use Rattle.rules.specs.declared.Answer.TheVariants.{Set, Refused, RefusedAt, RefusedBlamed, RefusedBlamedAt}
use Rattle.rules.proofs.GuardLaws.{guarded_by}
use Rattle.rules.proofs.AnswerLaws.{with_by, step_refused_plain, at_with_plain}
use Rattle.rules.proofs.Accepted.{Took, stayed, moved}
use Rattle.rules.proofs.Kept.{fits, ready_passes, took_step, good_step}
use Rattle.rules.proofs.Moves.{PromiseMove, p_same, p_made, p_set, p_blamed, p_moved}
use Rattle.rules.proofs.Order.{first_given, given_first, step_guarded, refused_first, first_refused}
use Rattle.rules.proofs.Order.{placed_first, placed_told, first_placed}
use Rattle.rules.proofs.RefusalLaws.{tests_past, actor_rows_past, first_past, own_rows_nine, own_rows_blamed}
use Rattle.rules.proofs.RefusalLaws.{set_is_nine, blamed_is_17}

-- a word from B on blames the task that is read off it
blamed_word : (B w b : ℕ) → B ≤ w → w - B ≡ b → w ≡ blamed_on B b
blamed_word B w b h e = omega arith

no_rows : (q : ℕ) → q ≢ 0 → first [] ≢ q
unfolding first
no_rows q m e = m (sym e)

module _ (F : Form) (apart : Apart F) (n : ℕ) (s : Tables) where
  -- ---- set

  module _ (t p : ℕ) where
    abbrev own : List Row
    own = own_rows F.base s.promises t p

    -- a number from 6 on is given by a row of the promise, and the task is ready
    own_given : (q : ℕ) → 5 < q → first (table_rows F n s ++ rows F s (step_set t p)) ≡ q
        → (task_at s t ≡ ready_word) × (first own ≡ q)
    own_given q h e =
        let (a, b, e₁) =
        tests_past (in_bounds F n s) (sound_test F.base s) (rows F s (step_set t p)) (λ (z : 1 ≡ q). omega arith)
        (λ (z : 2 ≡ q). omega arith) e in
        let (act, e₂) =
        actor_rows_past s.tasks t own (λ (z : 3 ≡ q). omega arith) (λ (z : 4 ≡ q). omega arith)
        (λ (z : 5 ≡ q). omega arith) e₁ in
        (act.ready, e₂)

    -- and is given where that row is the first to apply
    own_gives : Good F s → room_of s ≤ n → task_at s t ≡ ready_word → (q : ℕ) → q ≢ 0 → first own ≡ q
        → step F n s (step_set t p) ≡ outcome (step_refused F s (step_set t p) q) s []
    own_gives g room r q m e =
        first_refused F n s (step_set t p) q (first_given _ q m (ready_passes F apart n s g room t r own ∙ e))

    pub set_nine : Good F s → room_of s ≤ n → task_at s t ≡ ready_word → promise_at s p ≡ set_word
        → step F n s (step_set t p) ≡ outcome (Refused 9) s []
    unfolding refused_with
    set_nine g room r e = own_gives g room r 9 (eqb-false 9 0 refl) (set_is_nine F.base s.promises t p [] e)

    pub nine_set : (step F n s (step_set t p)).answer ≡ Refused 9
        → (task_at s t ≡ ready_word) × (promise_at s p ≡ set_word)
    nine_set e =
        let plain = step_refused_plain F s (step_set t p) 9 (eqb-false 9 17 refl) in
        let (r, e₁) = own_given 9 (omega arith) (given_first (refused_first F n s (step_set t p) 9 (e ∙ sym plain))) in
        (r, own_rows_nine F.base s.promises t p [] (no_rows 9 (eqb-false 9 0 refl)) e₁)

    pub set_blamed : Good F s → room_of s ≤ n → (b : ℕ) → task_at s t ≡ ready_word → promise_at s p ≡ blamed_on F.base b
        → step F n s (step_set t p) ≡ outcome (RefusedBlamed b) s []
    unfolding refused_with
    set_blamed g room b r e =
        own_gives g room r 17 (eqb-false 17 0 refl)
        (blamed_is_17 F.base s.promises t p [] (omega (arith, apart)) (omega arith))
        ∙ ap (λ (x : ℕ). outcome (RefusedBlamed x) s []) (omega arith)

    pub blamed_set_lem : (b : ℕ) → (step F n s (step_set t p)).answer ≡ RefusedBlamed b
        → (task_at s t ≡ ready_word) × (promise_at s p ≡ blamed_on F.base b)
    blamed_set_lem b =
        subst Means (sym (step_guarded F n s (step_set t p)))
        (guarded_by Means (step_refused F s (step_set t p)) r s (effect F s (step_set t p)) by_row
        (λ z (k : Set _ ≡ RefusedBlamed b). clash cc))
      where
        r : ℕ
        r = first (table_rows F n s ++ rows F s (step_set t p))

        Means : Outcome → Type 0
        Means o = o.answer ≡ RefusedBlamed b → (task_at s t ≡ ready_word) × (promise_at s p ≡ blamed_on F.base b)

        told : r ≡ 17 → RefusedBlamed (blamed_task F.base s p) ≡ RefusedBlamed b
            → (task_at s t ≡ ready_word) × (promise_at s p ≡ blamed_on F.base b)
        told h k =
            let (y, e₁) = own_given 17 (omega arith) h in (
              y,
              blamed_word F.base (promise_at s p) b
                  (own_rows_blamed F.base s.promises t p [] (no_rows 17 (eqb-false 17 0 refl)) e₁) cc,
            )

        by_row : r ≢ 0 → Means (outcome (step_refused F s (step_set t p) r) s [])
        by_row m =
            with_by (λ (a : Answer). Means (outcome a s [])) _ r told (λ h (k : Refused r ≡ RefusedBlamed b). clash cc)

  -- ---- async

  module _ (t c : ℕ) (list : List ℕ) where
    -- after the rows of its promise an entry has 13 alone
    last_row : (q i : ℕ) → 13 ≢ q → q ≢ 0 → first ((13, not (all_below i (differs list (get_or list i 0)))) ∷ []) ≢ q
    unfolding first
    last_row q i m k z = k (sym (first_past 13 (not (all_below i (differs list (get_or list i 0)))) [] m z).1)

    -- the rows let the step come to entry i of its list
    abbrev Comes : ℕ → Type 0
    Comes i =
        NoneGiven (table_rows F n s ++ rows F s (step_async t c list)) × (i < length list)
        × ((j : ℕ) → j < i → NoneGiven (entry_rows F.base s.promises t list j))

    -- where it is refused by the first of the entry's rows
    entry_gives : (q i : ℕ) → q ≢ 0 → Comes i → first (entry_rows F.base s.promises t list i) ≡ q
        → step F n s (step_async t c list) ≡ outcome (refused_at_with (blamed_task F.base s (get_or list i 0)) i q) s []
    entry_gives q i m (none, h, good) e =
        first_placed F n s t c list q i none (record { within = h; earlier = good; given = first_given _ q m e })

    pub async_blamed : (i b : ℕ) → Comes i → promise_at s (get_or list i 0) ≡ blamed_on F.base b
        → step F n s (step_async t c list) ≡ outcome (RefusedBlamedAt i b) s []
    unfolding refused_at_with
    async_blamed i b k e =
        entry_gives 17 i (eqb-false 17 0 refl) k
        (blamed_is_17 F.base s.promises t (get_or list i 0) _ (omega (arith, apart)) (omega arith))
        ∙ ap (λ (x : ℕ). outcome (RefusedBlamedAt i x) s []) (omega arith)

    pub async_nine : (i : ℕ) → Comes i → promise_at s (get_or list i 0) ≡ set_word
        → step F n s (step_async t c list) ≡ outcome (RefusedAt 9 i) s []
    unfolding refused_at_with
    async_nine i k e =
        entry_gives 9 i (eqb-false 9 0 refl) k (set_is_nine F.base s.promises t (get_or list i 0) _ e)

    pub blamed_async : (i b : ℕ) → (step F n s (step_async t c list)).answer ≡ RefusedBlamedAt i b
        → BadPlace F.base s.promises t list 17 i × (promise_at s (get_or list i 0) ≡ blamed_on F.base b)
    unfolding refused_at_with
    blamed_async i b e =
        let bad = (placed_first F n s t c list 17 i b e).1 in
        let more = last_row 17 i (eqb-false 13 17 refl) (eqb-false 17 0 refl) in (
          bad,
          blamed_word F.base (promise_at s (get_or list i 0)) b
              (own_rows_blamed F.base s.promises t (get_or list i 0) _ more (given_first bad.given))
              (placed_told F n s t c list i b e),
        )

    pub nine_async : (i : ℕ) → (step F n s (step_async t c list)).answer ≡ RefusedAt 9 i
        → promise_at s (get_or list i 0) ≡ set_word
    nine_async i e =
        let plain = at_with_plain 0 i 9 (eqb-false 9 17 refl) in
        let bad = (placed_first F n s t c list 9 i 0 (e ∙ sym plain)).1 in
        own_rows_nine F.base s.promises t (get_or list i 0) _
        (last_row 9 i (eqb-false 13 9 refl) (eqb-false 9 0 refl)) (given_first bad.given)

-- ---- who is told

module _ (F : Form) (apart : Apart F) (s : Tables) where
  pub blamed_ended_lem : Good F s → (p b : ℕ) → promise_at s p ≡ blamed_on F.base b
      → (b < length s.tasks) × (task_at s b ≡ ended_word)
  blamed_ended_lem g p b e = go (g.sound.promise_word p)
    where
      go : PromiseWord (length s.tasks) F.base (promise_at s p)
          → (b < length s.tasks) × (task_at s b ≡ ended_word)
      go (unmade z) = absurd (omega (arith, apart))
      go (done z) = absurd (omega (arith, apart))
      go (owned u h z) = absurd (omega (arith, fits F apart s g.sizes))
      go (blamed u h z) = let x : b ≡ u = omega arith in (omega arith, g.sound.blamed_ended p b (omega arith) e)

  -- a step leaves the word of a blamed promise: what it changes was unmade, or owned by the actor
  word_stays : (s' : Tables) (t : ℕ) → first_owned + length s.tasks ≤ F.base → Took F.base s t s' → (p b : ℕ)
      → promise_at s p ≡ blamed_on F.base b → promise_at s' p ≡ blamed_on F.base b
  word_stays s' t f (stayed e) p b h = ap (λ (x : Tables). promise_at x p) e ∙ h
  word_stays s' t f (moved l m) p b h = go m.moves.below (m.moves.prom p)
    where
      go : t < length s.tasks → PromiseMove (length s.tasks) F.base (view s) (view s') t p
          → promise_at s' p ≡ blamed_on F.base b
      go k (p_same e) = e ∙ h
      go k (p_made e z) = absurd (omega arith)
      go k (p_set e z) = absurd (omega arith)
      go k (p_blamed e z w) = absurd (omega arith)
      go k (p_moved d x e z w) = absurd (omega arith)

-- after any steps
pub blame_stays : (F : Form) (apart : Apart F) (s : Tables) (xs : List LentStep) → Good F s → (p b : ℕ)
    → promise_at s p ≡ blamed_on F.base b → promise_at (run F s xs) p ≡ blamed_on F.base b
blame_stays F apart s [] g p b h = h
blame_stays F apart s ((n, x) ∷ xs) g p b h =
    blame_stays F apart (step F n s x).after xs (good_step F apart n s x g) p b
    (word_stays F apart s (step F n s x).after (actor x) (fits F apart s g.sizes) (took_step F apart n s x) p b h)
