-- What a step that is not refused has found, and what it does to the words: in any tables each step, whatever its
-- numbers, leaves them as they were or moves them as `Moves` says, in sound tables as `SoundMoves` says. The soundness
-- test is no part of it, so this serves the rules without it as well. Assumes nothing.
use mathlib.Core.Path.{◌≡◌, refl, sym, ap, subst, ◌∙◌}
use mathlib.Core.Logic.{◌⊎◌, inl, inr, ◌≢◌}
use mathlib.Core.List.{List, [], ◌∷◌}
use Prim.Native.Nat.{ℕ, ◌+◌, ◌-◌, ◌≤◌, ◌<◌}
use native.Mathlib.Omega.{arith}
use native.Mathlib.Decide.{ℕ_discrete}
use borrow.Author.Tests.{eq-eqb, ne_eqb, le-leb, lt-leb}
use lib.ListN.{length, set, length-set}
use Rattle.words.specs.Words.{Form, ready_word, ended_word, first_owned, set_word, unused_word, unmade_word, first_wait}
use Rattle.words.specs.Words.{waits_on, owned_by, blamed_on}
use Rattle.words.specs.Lists.{is, In}
use Rattle.words.proofs.BoolLaws.{clash}
use Rattle.words.proofs.ListLaws.{length_replaced, count_le, in_place}
use Rattle.rules.specs.Tables.{Tables, task_at, promise_at, live}
use Rattle.rules.specs.Chains.{Chain, here, Comes, chain_end, view, waits}
use Rattle.rules.specs.Sound.{TaskWord, PromiseWord, unused, ready, ended, unmade, done, owned, blamed, Sound}
use Rattle.rules.specs.Sound as sound
use Rattle.rules.specs.Answers.{by_number}
use Rattle.rules.specs.Refusals.{first, entry_refusal, first_bad, new_rows, get_rows, own_rows, child_rows}
use Rattle.rules.specs.Steps.{Step, step_new, step_set, step_get, step_async, step_end, actor, Outcome, outcome}
use Rattle.rules.specs.Steps.{with_made, with_set, with_wait, with_started, with_ended, given, awaits, back, free}
use Rattle.rules.specs.Steps.{walk_from, followed, got, guarded, rows, effect, raw}
use Rattle.rules.specs.declared.Answer.TheVariants.{Value, Blamed, Waits, Cycle}
use Rattle.rules.proofs.BoundsLaws.{AsLong, as_long, long_tasks, long_promises, long_words, live_is}
use Rattle.rules.proofs.GuardLaws.{guarded_is, got_cases, started_by}
use Rattle.rules.proofs.Moves.{Moves, SoundMoves}
use Rattle.rules.proofs.RefusalLaws.{Acts, actor_rows_none, child_rows_none, new_rows_none, get_rows_none}
use Rattle.rules.proofs.RefusalLaws.{own_rows_none, entry_refusal_none, first_bad_before}
use Rattle.rules.proofs.SoundTest.{chain_bound}
use Rattle.rules.proofs.StepMoves.{woken, new_moves, set_moves, get_moves, async_moves, end_moves, new_sound}
use Rattle.rules.proofs.StepMoves.{set_sound, get_sound, async_sound, end_sound}
use Rattle.rules.proofs.WalkLaws.{walk_back, walk_free}

-- ---- in any tables

length_given : (w : ℕ) (l ps : List ℕ) → length (given w l ps) ≡ length ps
unfolding given
length_given w [] ps = refl
length_given w (q ∷ l) ps = length_given w l (set ps q w) ∙ length-set ps q w

-- what a step has found in the tables, and the tables after it: it left them as they were, or nothing stood against it
pub data Did (B : ℕ) (s : Tables) : Step → Tables → Type 0 where
  nothing : {x : Step} → Did B s x s
  made : {t p : ℕ} → Acts s.tasks t → p < length s.promises → promise_at s p ≡ unmade_word
      → Did B s (step_new t p) (with_made s t p)
  was_set : {t p : ℕ} → Acts s.tasks t → p < length s.promises → promise_at s p ≡ owned_by t
      → Did B s (step_set t p) (with_set s p)
  waited : {t p : ℕ} (k : ℕ) → Acts s.tasks t → p < length s.promises → promise_at s p ≢ unmade_word
      → (got B s t p (promise_at s p)).answer ≡ Waits k → Did B s (step_get t p) (with_wait s t p)
  began : {t c : ℕ} {list : List ℕ} → Acts s.tasks t → c < length s.tasks → task_at s c ≡ unused_word
      → ((q : ℕ) → In q list → (q < length s.promises) × (promise_at s q ≡ owned_by t))
      → Did B s (step_async t c list) (with_started s c list)
  has_ended : {t : ℕ} → Acts s.tasks t → Did B s (step_end t) (with_ended B s t)

-- every entry of a list that has no bad place is the actor's own
pub entries_good : (B : ℕ) (s : Tables) (t : ℕ) (list : List ℕ)
    → length list ≤ first_bad (entry_refusal B s.promises t list) (length list) 0
    → (q : ℕ) → In q list → (q < length s.promises) × (promise_at s q ≡ owned_by t)
entries_good B s t list h q i =
    let (j, b, e) = in_place i in
    let (x, y, z) =
    entry_refusal_none B s.promises t list j
    (first_bad_before (entry_refusal B s.promises t list) (length list) 0 j (omega arith) (omega arith)) in
    (subst (λ (k : ℕ). k < length s.promises) e x, subst (λ (k : ℕ). promise_at s k ≡ owned_by t) e y)

module _ (F : Form) (s : Tables) where
  did_get : (t p : ℕ) → first (rows F s (step_get t p)) ≡ 0
      → Did F.base s (step_get t p) (got F.base s t p (promise_at s p)).after
  did_get t p z =
      let (a, z₁) = actor_rows_none s.tasks t (get_rows s.promises p) z in
      let (b, m) = get_rows_none s.promises p z₁ in
      got_cases
      (λ (o : Outcome).
      (got F.base s t p (promise_at s p)).answer ≡ o.answer → Did F.base s (step_get t p) o.after)
      F.base s t p (promise_at s p)
      (λ e. nothing) (λ x e. nothing) (λ k e. nothing) (λ k e. waited k a b m e) refl

  did_effect : (x : Step) → first (rows F s x) ≡ 0 → Did F.base s x (effect F s x).after
  did_effect (step_new t p) z =
      let (a, z₁) = actor_rows_none s.tasks t (new_rows s.promises p) z in
      let (b, c) = new_rows_none s.promises p z₁ in
      made a b c
  did_effect (step_set t p) z =
      let (a, z₁) = actor_rows_none s.tasks t (own_rows F.base s.promises t p) z in
      let (b, c, z₂) = own_rows_none F.base s.promises t p [] z₁ in
      was_set a b c
  did_effect (step_get t p) z = did_get t p z
  did_effect (step_async t c list) z =
      let (a, z₁) = actor_rows_none s.tasks t (child_rows s.tasks c) z in
      let (b, d) = child_rows_none s.tasks c z₁ in
      started_by (λ (o : Outcome). Did F.base s (step_async t c list) o.after) F.base s t c list _
      (λ h. nothing) (λ h. began a b d (entries_good F.base s t list h))
  did_effect (step_end t) z = has_ended (actor_rows_none s.tasks t [] z).0

  -- each step of any task, with any numbers, refused and alarmed ones too, by the rules without refusals 1 and 2
  pub did_raw : (x : Step) → Did F.base s x (raw F s x).after
  did_raw x = guarded_is _ (first (rows F s x)) s (effect F s x) (Did F.base s x) nothing (did_effect x)

-- the tables stay as long as they were
did_lengths : {B : ℕ} {s s' : Tables} {x : Step} → Did B s x s' → AsLong s' s
did_lengths {s = s} nothing = as_long s
did_lengths {s = s} (made {t = t} {p = p} a b c) = long_promises s (length-set s.promises p (owned_by t))
did_lengths {s = s} (was_set {p = p} a b c) =
    long_words s (length_replaced (is (waits_on p)) ready_word s.tasks) (length-set s.promises p set_word)
did_lengths {s = s} (waited {t = t} {p = p} k a b m e) = long_tasks s (length-set s.tasks t (waits_on p))
did_lengths {s = s} (began {c = c} {list = list} a b d good) =
    long_words s (length-set s.tasks c ready_word) (length_given (owned_by c) list s.promises)
did_lengths {B = B} {s = s} (has_ended {t = t} a) =
    long_words s
    (length-set (woken B s t) t ended_word ∙ length_replaced (awaits s.promises (owned_by t)) ready_word s.tasks)
    (length_replaced (is (owned_by t)) (blamed_on B t) s.promises)

-- whatever refused the step before its own rows
pub lengths_kept : (F : Form) (s : Tables) (x : Step) (r : ℕ) → AsLong (guarded by_number r s (raw F s x)).after s
lengths_kept F s x r =
    guarded_is _ r s (raw F s x) (λ (y : Tables). AsLong y s) (as_long s) (λ z. did_lengths (did_raw F s x))

-- their words are as they were, or move as `Moves` says
pub did_moves : {B : ℕ} {s s' : Tables} {x : Step} → Did B s x s'
    → (s' ≡ s) ⊎ Moves (length s.tasks) (length s.promises) B (view s) (view s') (actor x)
did_moves nothing = inl refl
did_moves {B = B} {s = s} (made {t = t} {p = p} a b c) =
    inr (new_moves (length s.tasks) (length s.promises) B s t a.below a.ready p b c)
did_moves {B = B} {s = s} (was_set {t = t} {p = p} a b c) =
    inr (set_moves (length s.tasks) (length s.promises) B s t a.below a.ready p b c)
did_moves {B = B} {s = s} (waited {t = t} {p = p} k a b m e) =
    inr (get_moves (length s.tasks) (length s.promises) B s t a.below a.ready p b a.below)
did_moves {B = B} {s = s} (began {t = t} {c = c} {list = list} a b d good) =
    inr
    (async_moves (length s.tasks) (length s.promises) B s t a.below a.ready c b b d list
    (λ q i. (good q i).0) (λ q i. (good q i).1))
did_moves {B = B} {s = s} (has_ended {t = t} a) =
    inr (end_moves (length s.tasks) (length s.promises) B s t a.below a.ready a.below)

-- what get does with a set, a blamed and an owned promise
module _ (F : Form) (s : Tables) (fits : first_owned + length s.tasks ≤ F.base) where
  pub got_set : (t p : ℕ) → promise_at s p ≡ set_word → got F.base s t p (promise_at s p) ≡ outcome Value s []
  unfolding got
  got_set t p x = rw (eq-eqb (promise_at s p) set_word x)

  pub got_blamed : (t p b : ℕ) → promise_at s p ≡ blamed_on F.base b
      → got F.base s t p (promise_at s p) ≡ outcome (Blamed b) s []
  unfolding got
  got_blamed t p b x =
      let i : promise_at s p - F.base ≡ b = omega arith in
      rw (
        ne_eqb (promise_at s p) set_word (λ (z : promise_at s p ≡ set_word). omega arith),
        le-leb F.base (promise_at s p) (omega arith),
        i,
      )

  pub got_owned : (t p u : ℕ) → u < length s.tasks → promise_at s p ≡ owned_by u
      → got F.base s t p (promise_at s p) ≡ followed s t p (walk_from s t u)
  unfolding got
  got_owned t p u h o =
      let i : promise_at s p - first_owned ≡ u = omega arith in
      rw (
        ne_eqb (promise_at s p) set_word (λ (e : promise_at s p ≡ set_word). omega arith),
        lt-leb F.base (promise_at s p) (omega arith),
        i,
      )

-- ---- in sound tables

-- the tables are as they were, or an accepted step of t moved their words
pub data Took (B : ℕ) (s : Tables) (t : ℕ) (s' : Tables) : Type 0 where
  stayed : s' ≡ s → Took B s t s'
  moved : AsLong s' s → SoundMoves (length s.tasks) (length s.promises) B (view s) (view s') t → Took B s t s'

module _ (F : Form) (s : Tables) (fits : first_owned + length s.tasks ≤ F.base) (sd : Sound F.base s) where
  -- an owner's chain comes to a ready task
  pub owner_chain : (q u : ℕ) → u < length s.tasks → promise_at s q ≡ owned_by u → Comes (waits s) u
  owner_chain q u h o = go (live_is _ (sd.owner_live q u h o)) (sd.task_word u)
    where
      go : (task_at s u ≡ ready_word) ⊎ (first_wait ≤ task_at s u) → TaskWord (length s.promises) (task_at s u)
          → Comes (waits s) u
      go (inl e) w = ([], here e)
      go (inr b) (unused e) = absurd (omega arith)
      go (inr b) (ready e) = ([], here e)
      go (inr b) (ended e) = absurd (omega arith)
      go (inr b) (sound.waits p g e) = sd.chain_comes u p e

  -- What get does with a promise that u owns: it comes back to t exactly when the chain of u ends at t.
  module _ (t p u : ℕ) (r : task_at s t ≡ ready_word) (h : u < length s.tasks) (o : promise_at s p ≡ owned_by u) where
    enough : {l : List ℕ} → Chain (waits s) u l → length l < length s.tasks
    enough c = omega (arith, chain_bound s c, count_le live s.tasks)

    pub got_back : {l : List ℕ} → Chain (waits s) u l → chain_end u l ≡ t
        → got F.base s t p (promise_at s p) ≡ followed s t p (back (1 + length l))
    got_back c e =
        got_owned F s fits t p u h o
        ∙ ap (followed s t p) (walk_back (length s.tasks) (view s) t r (length s.tasks) 1 c (enough c) e)

    pub got_free : {l : List ℕ} → Chain (waits s) u l → chain_end u l ≢ t
        → got F.base s t p (promise_at s p) ≡ followed s t p (free (1 + length l))
    got_free c e =
        got_owned F s fits t p u h o
        ∙ ap (followed s t p) (walk_free (length s.tasks) (view s) t r (length s.tasks) 1 c (enough c) e)

  -- a statement about what get does: four ways it may go
  pub got_is : (t p : ℕ) (Q : Outcome → Type 0) → task_at s t ≡ ready_word → p < length s.promises
      → promise_at s p ≢ unmade_word
      → (promise_at s p ≡ set_word → Q (outcome Value s []))
      → ((b : ℕ) → b < length s.tasks → promise_at s p ≡ blamed_on F.base b → Q (outcome (Blamed b) s []))
      → ((u : ℕ) (l : List ℕ) → u < length s.tasks → promise_at s p ≡ owned_by u → Chain (waits s) u l
      → chain_end u l ≡ t → Q (followed s t p (back (1 + length l))))
      → ((u : ℕ) (l : List ℕ) → u < length s.tasks → promise_at s p ≡ owned_by u → Chain (waits s) u l
      → chain_end u l ≢ t → Q (followed s t p (free (1 + length l))))
      → Q (got F.base s t p (promise_at s p))
  got_is t p Q r h m is_set is-blamed is-back is_free = go (sd.promise_word p)
    where
      at : (u : ℕ) → u < length s.tasks → promise_at s p ≡ owned_by u → (l : List ℕ) → Chain (waits s) u l
          → Dec (chain_end u l ≡ t) → Q (got F.base s t p (promise_at s p))
      at u b o l c (yes z) = subst Q (sym (got_back t p u r b o c z)) (is-back u l b o c z)
      at u b o l c (no z) = subst Q (sym (got_free t p u r b o c z)) (is_free u l b o c z)

      go : PromiseWord (length s.tasks) F.base (promise_at s p) → Q (got F.base s t p (promise_at s p))
      go (unmade x) = absurd (m x)
      go (done x) = subst Q (sym (got_set F s fits t p x)) (is_set x)
      go (owned u b o) = let (l, c) = owner_chain p u b o in at u b o l c (ℕ_discrete (chain_end u l) t)
      go (blamed b d x) = subst Q (sym (got_blamed F s fits t p b x)) (is-blamed b d x)

  -- a wait that was entered
  took_wait : (t p k : ℕ) → Acts s.tasks t → p < length s.promises → promise_at s p ≢ unmade_word
      → (got F.base s t p (promise_at s p)).answer ≡ Waits k
      → SoundMoves (length s.tasks) (length s.promises) F.base (view s) (view (with_wait s t p)) t
  unfolding followed
  took_wait t p k a b m e =
      got_is t p
      (λ (o : Outcome).
      o.answer ≡ Waits k
      → SoundMoves (length s.tasks) (length s.promises) F.base (view s) (view (with_wait s t p)) t)
      a.ready b m
      (λ x (z : Value ≡ Waits k). clash cc)
      (λ c y x (z : Blamed c ≡ Waits k). clash cc)
      (λ u l h o c y (z : Cycle (1 + length l) ≡ Waits k). clash cc)
      (λ u l h o c y z.
      get_sound (length s.tasks) (length s.promises) F.base fits s sd t a.below a.ready p u h o b
      a.below l c y)
      e

  took_did : {s' : Tables} {x : Step} → Did F.base s x s' → Took F.base s (actor x) s'
  took_did d = go d (did_lengths d)
    where
      go : {s' : Tables} {x : Step} → Did F.base s x s' → AsLong s' s → Took F.base s (actor x) s'
      go nothing l = stayed refl
      go (made {t = t} {p = p} a b c) l =
          moved l
          (new_sound (length s.tasks) (length s.promises) F.base fits s sd t a.below a.ready p b c)
      go (was_set {t = t} {p = p} a b c) l =
          moved l
          (set_sound (length s.tasks) (length s.promises) F.base fits s sd t a.below a.ready p b c)
      go (waited {t = t} {p = p} k a b m e) l = moved l (took_wait t p k a b m e)
      go (began {t = t} {c = c} {list = list} a b d good) l =
          moved l
          (async_sound (length s.tasks) (length s.promises) F.base fits s sd t a.below a.ready c b b d
          list (λ q i. (good q i).0) (λ q i. (good q i).1))
      go (has_ended {t = t} a) l =
          moved l
          (end_sound (length s.tasks) (length s.promises) F.base fits s sd t a.below a.ready a.below)

  pub took_raw : (x : Step) → Took F.base s (actor x) (raw F s x).after
  took_raw x = took_did (did_raw F s x)
