-- Demand 2 over the definitions, its last sentence: a task that ends is named for exactly the promises that it owned,
-- and whoever waited on one of them is made ready; a set makes ready exactly those who waited on it. Assumes nothing.
use mathlib.Core.Path.{◌≡◌, refl, sym, ap, subst, ◌∙◌}
use mathlib.Core.List.{List, []}
use mathlib.Core.Bool.{Bool, true}
use Prim.Native.Nat.{ℕ, ◌<◌}
use native.Mathlib.Omega.{arith}
use native.Mathlib.Nat.{sub-zero}
use native.Mathlib.Decide.{ℕ_discrete}
use lib.ListN.{length, get_or}
use lib.Seq.{get_or-set_same, get_or-set_other}
use Rattle.words.specs.Words.{Form, ready_word, waits_on, set_word, owned_by, blamed_on}
use Rattle.words.specs.Lists.{is, places, In}
use Rattle.words.proofs.ListLaws.{is_hit, is_true, places_at, at_places, places_rising, within_table}
use Rattle.rules.specs.Tables.{Tables, task_at, promise_at}
use Rattle.rules.specs.Sound.{Sound}
use Rattle.rules.specs.Answers.{by_number}
use Rattle.rules.specs.Refusals.{Row, first, table_rows, own_rows}
use Rattle.rules.specs.Steps.{Step, step_set, step_end, Outcome, awaits, with_ended, guarded, rows, effect, raw}
use Rattle.rules.specs.Steps.{step}
use Rattle.rules.specs.Demands.{Refusal, plain, Named, Woken}
use Rattle.rules.specs.declared.Answer.{Answer}
use Rattle.rules.specs.declared.Answer.TheVariants.{Set, Ended}
use Rattle.rules.proofs.AnswerLaws.{step_refused_refuses}
use Rattle.rules.proofs.GuardLaws.{guarded_by}
use Rattle.rules.proofs.RefusalLaws.{actor_rows_none, own_rows_none}
use Rattle.rules.proofs.StepMoves.{awaits_hit, awaits_true, set_hit, set_miss, blame_hit, blame_miss, end_hit}
use Rattle.rules.proofs.StepMoves.{end_miss, end_actor}

-- ---- the places of a table, by the words that they hold

place_passes : (f : ℕ → Bool) (ws : List ℕ) (x : ℕ) → In x (places f 0 ws) → f (get_or ws x 0) ≡ true
place_passes f ws x i = subst (λ (k : ℕ). f (get_or ws k 0) ≡ true) (sub-zero x) (places_at f 0 ws x i).passes

passes_place : (f : ℕ → Bool) (ws : List ℕ) (x : ℕ) → x < length ws → f (get_or ws x 0) ≡ true → In x (places f 0 ws)
passes_place f ws x h e =
    at_places f 0 ws x
    (record {
      from = omega arith;
      within = omega arith;
      passes = subst (λ (k : ℕ). f (get_or ws k 0) ≡ true) (sym (sub-zero x)) e;
    })

-- ---- an answer that is no refusal comes from the effect

guarded_let : (f : ℕ → Answer) → ((q : ℕ) → Refusal (f q)) → (r : ℕ) (s : Tables) (o : Outcome)
    → (Refusal (guarded f r s o).answer → ⊥) → (r ≡ 0) × (guarded f r s o ≡ o)
guarded_let f refuses r s o =
    guarded_by (λ (x : Outcome). (Refusal x.answer → ⊥) → (r ≡ 0) × (x ≡ o)) f r s o (λ n h. absurd (h (refuses r)))
    (λ z h. (z, refl))

-- whatever rows stand before those of the step
pub let_through : (F : Form) (s : Tables) (x : Step) (xs : List Row) (a : Answer) → (Refusal a → ⊥)
    → (guarded by_number (first xs) s (raw F s x)).answer ≡ a
    → (first xs ≡ 0) × (first (rows F s x) ≡ 0) × (guarded by_number (first xs) s (raw F s x) ≡ effect F s x)
let_through F s x xs a h e =
    let (y, o) = guarded_let _ plain (first xs) s (raw F s x) (λ w. h (subst Refusal e w)) in
    let (z, o₁) =
    guarded_let _ (step_refused_refuses F s x) (first (rows F s x)) s (effect F s x)
    (λ w. h (subst Refusal (sym (ap (λ (y : Outcome). y.answer) o) ∙ e) w)) in
    (y, z, o ∙ o₁)

pub accepted : (F : Form) (n : ℕ) (s : Tables) (x : Step) (a : Answer) → (Refusal a → ⊥) → (step F n s x).answer ≡ a
    → (first (rows F s x) ≡ 0) × (step F n s x ≡ effect F s x)
accepted F n s x a h e = let (y, z, o) = let_through F s x (table_rows F n s) a h e in (z, o)

-- ---- set

pub set_wakes : (F : Form) (n : ℕ) (s : Tables) (t p m : ℕ) → (step F n s (step_set t p)).answer ≡ Set m
    → Woken s p m (step F n s (step_set t p))
set_wakes F n s t p m e =
    let (z, o) = accepted F n s (step_set t p) (Set m) (λ r. elim r [ ]) e in
    let (act, z₁) = actor_rows_none s.tasks t (own_rows F.base s.promises t p) z in
    let (h, w, z₂) = own_rows_none F.base s.promises t p [] z₁ in
    subst (Woken s p m) (sym o) (woken h (sym (ap (λ (y : Outcome). y.answer) o) ∙ e))
  where
    ws : List ℕ
    ws = places (is (waits_on p)) 0 s.tasks

    waited : (v : ℕ) → In v ws → task_at s v ≡ waits_on p
    waited v i = is_true (waits_on p) (task_at s v) (place_passes (is (waits_on p)) s.tasks v i)

    all_waited : (v : ℕ) → task_at s v ≡ waits_on p → In v ws
    all_waited v w =
        passes_place (is (waits_on p)) s.tasks v (within_table s.tasks v (λ (y : task_at s v ≡ 0). omega arith))
        (is_hit (waits_on p) (task_at s v) w)

    woken : p < length s.promises → Set (length ws) ≡ Set m → Woken s p m (effect F s (step_set t p))
    woken h a = record {
      count = sym cc;
      rising = places_rising (is (waits_on p)) 0 s.tasks;
      waited = waited;
      all_waited = all_waited;
      all_ready = λ v i. set_hit s p v (waited v i);
      is_set = get_or-set_same s.promises p set_word 0 h;
      other_tasks = λ v k. set_miss s p v (λ w. k (all_waited v w));
      other_promises = λ q k. get_or-set_other s.promises p q set_word 0 k;
    }

-- ---- end

pub end_names : (F : Form) (n : ℕ) (s : Tables) → Sound F.base s → (t m k : ℕ)
    → (step F n s (step_end t)).answer ≡ Ended m k → Named F.base s t m k (step F n s (step_end t))
end_names F n s sd t m k e =
    let (z, o) = accepted F n s (step_end t) (Ended m k) (λ r. elim r [ ]) e in
    let (act, z₁) = actor_rows_none s.tasks t [] z in
    subst (Named F.base s t m k) (sym o)
    (named act.below act.ready (sym (ap (λ (y : Outcome). y.answer) o) ∙ e))
  where
    B : ℕ
    B = F.base

    mine : List ℕ
    mine = places (is (owned_by t)) 0 s.promises

    theirs : List ℕ
    theirs = places (awaits s.promises (owned_by t)) 0 s.tasks

    owned : (q : ℕ) → In q mine → promise_at s q ≡ owned_by t
    owned q i = is_true (owned_by t) (promise_at s q) (place_passes (is (owned_by t)) s.promises q i)

    all_owned : (q : ℕ) → promise_at s q ≡ owned_by t → In q mine
    all_owned q w =
        passes_place (is (owned_by t)) s.promises q
        (within_table s.promises q (λ (y : promise_at s q ≡ 0). omega arith)) (is_hit (owned_by t) (promise_at s q) w)

    waited : (v : ℕ) → In v theirs → (p : ℕ) × (task_at s v ≡ waits_on p) × (promise_at s p ≡ owned_by t)
    waited v i =
        awaits_true s.promises (owned_by t) (task_at s v)
        (place_passes (awaits s.promises (owned_by t)) s.tasks v i)

    all_waited : (v p : ℕ) → task_at s v ≡ waits_on p → promise_at s p ≡ owned_by t → In v theirs
    all_waited v p w o =
        passes_place (awaits s.promises (owned_by t)) s.tasks v
        (within_table s.tasks v (λ (y : task_at s v ≡ 0). omega arith))
        (awaits_hit s.promises (owned_by t) (task_at s v) p w o)

    -- nobody ready was blamed before
    blamed : t < length s.tasks → task_at s t ≡ ready_word → (q : ℕ)
        → promise_at (with_ended F.base s t) q ≡ blamed_on F.base t → Dec (promise_at s q ≡ owned_by t) → In q mine
    blamed b r q w (yes y) = all_owned q y
    blamed b r q w (no y) = absurd (omega (arith, sd.blamed_ended q t b (sym (blame_miss F.base s t q y) ∙ w)))

    named : t < length s.tasks → task_at s t ≡ ready_word → Ended (length mine) (length theirs) ≡ Ended m k
        → Named F.base s t m k (effect F s (step_end t))
    named b r a = record {
      omitted = mine;
      woken = theirs;
      words = refl;
      counts = (sym cc, sym cc);
      rising = (
        places_rising (is (owned_by t)) 0 s.promises,
        places_rising (awaits s.promises (owned_by t)) 0 s.tasks,
      );
      owned = owned;
      all_owned = all_owned;
      blamed = λ q w. blamed b r q w (ℕ_discrete (promise_at s q) (owned_by t));
      all_blamed = λ q i. blame_hit F.base s t q (owned q i);
      waited = waited;
      all_waited = all_waited;
      all_ready = λ v i. let (p, w, o) = waited v i in end_hit F.base s t v
          (λ (y : v ≡ t). omega (arith, ap (task_at s) y)) (p, w, o);
      is_ended = end_actor F.base s t b;
      other_tasks = λ v x y. end_miss F.base s t v x (λ k. y (all_waited v k.0 k.1 k.2));
      other_promises = λ q x. blame_miss F.base s t q (λ w. x (all_owned q w));
    }
