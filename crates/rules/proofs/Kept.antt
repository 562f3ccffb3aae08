-- Every step keeps sound tables sound and good tables good, with whatever report; all-zero and fresh tables are sound,
-- and so are the tables after any steps from fresh ones. Assumes nothing.
use mathlib.Core.Path.{◌≡◌, refl, sym, ap, subst, subst₂, ◌∙◌}
use mathlib.Core.Logic.{◌⊎◌, inl, inr}
use mathlib.Core.List.{List, [], ◌∷◌, ◌++◌}
use mathlib.Core.Bool.{true}
use Prim.Native.Nat.{ℕ, ◌+◌, ◌≤◌, ◌<◌}
use native.Mathlib.Omega.{arith}
use native.Mathlib.Decide.{ℕ_discrete, dec_lt}
use lib.ListN.{length, get_or, replicate, length-set, length-replicate, get_or-replicate, get_or-eq_default}
use lib.Seq.{get_or-set_same, get_or-set_other}
use Rattle.words.specs.Words.{Form, unused_word, ready_word, first_wait, waits_on, first_owned}
use Rattle.words.proofs.BoolLaws.{and_yes, and_split}
use Rattle.rules.specs.Tables.{Tables, tables, sizes_fit, room_of, task_at, Live, fresh}
use Rattle.rules.specs.Chains.{view}
use Rattle.rules.specs.Sound.{TaskWord, unused, ready, unmade, SoundView, Sound, sound_test, is_sound}
use Rattle.rules.specs.Refusals.{Row, first, table_rows, actor_rows}
use Rattle.rules.specs.Steps.{Step, actor, raw, step, LentStep, run}
use Rattle.rules.specs.Demands.{Apart, Good, Refusal}
use Rattle.rules.specs.declared.Answer.{Answer}
use Rattle.rules.proofs.BoundsLaws.{AsLong, as_long, as_long_too, sizes_fit_true, sizes_fit_of, sizes_fit_kept}
use Rattle.rules.proofs.BoundsLaws.{in_bounds_sizes, in_bounds_room, in_bounds_both, live_is}
use Rattle.rules.proofs.GuardLaws.{guarded_is}
use Rattle.rules.proofs.Accepted.{lengths_kept, Took, stayed, moved, took_raw}
use Rattle.rules.proofs.Moves.{sound_step}
use Rattle.rules.proofs.GivesLaws.{table_rows_none}
use Rattle.rules.proofs.Named.{let_through}
use Rattle.rules.proofs.RefusalLaws.{ready_acts}
use Rattle.rules.proofs.SoundTest.{sound_test_sound, sound_sound_test}

module _ (F : Form) (apart : Apart F) where
  -- the owned words of tables whose sizes fit end before the blamed ones begin
  pub fits : (s : Tables) → sizes_fit F s ≡ true → first_owned + length s.tasks ≤ F.base
  fits s b = omega (arith, apart, (sizes_fit_true F s b).tasks)

  -- the test of tables of any lengths finds exactly the good ones
  pub is_sound_good : (s : Tables) → is_sound F s ≡ true → Good F s
  is_sound_good s e =
      let (sizes, passes) = and_split (sizes_fit F s) (sound_test F.base s) e in
      record { sizes = sizes; sound = sound_test_sound F.base s (fits s sizes) passes }

  pub good_is_sound_test : (s : Tables) → Good F s → is_sound F s ≡ true
  good_is_sound_test s g =
      and_yes (sizes_fit F s) (sound_test F.base s) g.sizes (sound_sound_test F.base s g.sound)

  module _ (n : ℕ) where
    -- where refusals 1 and 2 are not given the tables are good, and the report has room
    good_of : (s : Tables) → first (table_rows F n s) ≡ 0 → Good F s
    good_of s e =
        let (bounds, passes) = table_rows_none F n s e in
        let sizes = in_bounds_sizes F n s bounds in
        record { sizes = sizes; sound = sound_test_sound F.base s (fits s sizes) passes }

    -- and then alone an answer is given that is no refusal
    module _ (s : Tables) (x : Step) (a : Answer) (h : Refusal a → ⊥) (e : (step F n s x).answer ≡ a) where
      not_given : first (table_rows F n s) ≡ 0
      not_given = (let_through F s x (table_rows F n s) a h e).0

      pub accepted_good : Good F s
      accepted_good = good_of s not_given

      pub accepted_room : room_of s ≤ n
      accepted_room = in_bounds_room F n s (table_rows_none F n s not_given).0

    -- each step of any task, with any numbers, from any tables: those that are damaged or out of bounds stay as they
    -- were
    pub took_step : (s : Tables) (x : Step) → Took F.base s (actor x) (step F n s x).after
    took_step s x =
        guarded_is _ (first (table_rows F n s)) s (raw F s x) (Took F.base s (actor x)) (stayed refl)
        (λ e. let g = good_of s e in took_raw F s (fits s g.sizes) g.sound x)

    sound_by : (s s' : Tables) (t : ℕ) → first_owned + length s.tasks ≤ F.base → Sound F.base s
        → Took F.base s t s' → Sound F.base s'
    sound_by s s' t f sd (stayed e) = subst (Sound F.base) (sym e) sd
    sound_by s s' t f sd (moved l st) =
        subst₂ (λ (x y : ℕ). SoundView x y F.base (view s')) (sym l.tasks) (sym l.promises)
        (sound_step (length s.tasks) (length s.promises) F.base f (view s) (view s') t sd st)

    -- a step leaves the tables sound, from any sound tables
    pub sound_kept : (s : Tables) → Sound F.base s → (x : Step) → Sound F.base (step F n s x).after
    sound_kept s sd x =
        guarded_is _ (first (table_rows F n s)) s (raw F s x) (Sound F.base) sd
        (λ e. let f = fits s (good_of s e).sizes in
        sound_by s (raw F s x).after (actor x) f sd (took_raw F s f sd x))

    -- and as long as they were
    pub step_lengths : (s : Tables) (x : Step) → AsLong (step F n s x).after s
    step_lengths s x = lengths_kept F s x (first (table_rows F n s))

    -- so it leaves good tables good
    pub good_step : (s : Tables) (x : Step) → Good F s → Good F (step F n s x).after
    good_step s x g =
        record { sizes = sizes_fit_kept F (step_lengths s x) g.sizes; sound = sound_kept s g.sound x }

    module _ (s : Tables) (g : Good F s) (room : room_of s ≤ n) where
      -- refusals 1 and 2 are not given to good tables with a report that has room
      pub good_passes : first (table_rows F n s) ≡ 0
      unfolding first
      good_passes = rw (in_bounds_both F n s g.sizes room, sound_sound_test F.base s g.sound) refl

      -- and a ready task may act: none of the first five is given
      pub ready_passes : (t : ℕ) → task_at s t ≡ ready_word → (rows : List Row)
          → first (table_rows F n s ++ (actor_rows s.tasks t ++ rows)) ≡ first rows
      unfolding first
      ready_passes t r rows =
          rw (in_bounds_both F n s g.sizes room, sound_sound_test F.base s g.sound)
          (ready_acts s.tasks t r rows)

  -- any steps, each with a report of its own
  pub run_lengths : (s : Tables) (xs : List LentStep) → AsLong (run F s xs) s
  run_lengths s [] = as_long s
  run_lengths s ((n, x) ∷ xs) = as_long_too (run_lengths (step F n s x).after xs) (step_lengths n s x)

  pub good_run : (s : Tables) (xs : List LentStep) → Good F s → Good F (run F s xs)
  good_run s [] g = g
  good_run s ((n, x) ∷ xs) g = good_run (step F n s x).after xs (good_step n s x g)

-- ---- all-zero and fresh tables

zeros : (m v : ℕ) → get_or {A = ℕ} (replicate m 0) v 0 ≡ 0
zeros m v = go (dec_lt v m)
  where
    go : Dec (v < m) → get_or {A = ℕ} (replicate m 0) v 0 ≡ 0
    go (yes h) = get_or-replicate m v 0 0 h
    go (no k) = get_or-eq_default (replicate m 0) 0 (omega (arith, length-replicate {A = ℕ} m 0))

-- all-zero tables are sound
pub zero_sound : (B T P : ℕ) → first_owned ≤ B → Sound B (tables (replicate T 0) (replicate P 0))
zero_sound B T P b = record {
  task_word = λ v. unused (zeros T v);
  promise_word = λ q. unmade (zeros P q);
  owner_live = λ q u h o. absurd (omega (arith, zeros P q));
  awaited_owned = λ v p w. absurd (omega (arith, zeros T v));
  blamed_ended = λ q u h o. absurd (omega (arith, zeros P q));
  chain_comes = λ v p w. absurd (omega (arith, zeros T v));
}

-- and have no live task
pub zero_not_live : (T P v : ℕ) → Live (task_at (tables (replicate T 0) (replicate P 0)) v) → ⊥
zero_not_live T P v l = go (live_is _ l)
  where
    go : (get_or {A = ℕ} (replicate T 0) v 0 ≡ ready_word) ⊎ (first_wait ≤ get_or {A = ℕ} (replicate T 0) v 0) → ⊥
    go (inl e) = omega (arith, zeros T v)
    go (inr h) = omega (arith, zeros T v)

pub fresh_lengths : (T P : ℕ) → (length (fresh T P).tasks ≡ T) × (length (fresh T P).promises ≡ P)
fresh_lengths T P =
    (length-set (replicate T 0) 0 ready_word ∙ length-replicate {A = ℕ} T 0, length-replicate {A = ℕ} P 0)

module _ (T P : ℕ) (some : 1 ≤ T) where
  fresh_task : (v : ℕ) → (task_at (fresh T P) v ≡ unused_word) ⊎ (task_at (fresh T P) v ≡ ready_word)
  fresh_task v = go (ℕ_discrete v 0)
    where
      go : Dec (v ≡ 0) → (task_at (fresh T P) v ≡ unused_word) ⊎ (task_at (fresh T P) v ≡ ready_word)
      go (yes e) =
          inr
          (ap (task_at (fresh T P)) e
          ∙ get_or-set_same (replicate T 0) 0 ready_word 0 (omega (arith, length-replicate {A = ℕ} T 0)))
      go (no k) = inl (get_or-set_other (replicate T 0) 0 v ready_word 0 k ∙ zeros T v)

  none_waits : (v p : ℕ) → task_at (fresh T P) v ≡ waits_on p
      → (task_at (fresh T P) v ≡ unused_word) ⊎ (task_at (fresh T P) v ≡ ready_word) → ⊥
  none_waits v p w (inl e) = omega arith
  none_waits v p w (inr e) = omega arith

  fresh_word : (m v : ℕ) → (task_at (fresh T P) v ≡ unused_word) ⊎ (task_at (fresh T P) v ≡ ready_word)
      → TaskWord m (task_at (fresh T P) v)
  fresh_word m v (inl e) = unused e
  fresh_word m v (inr e) = ready e

  pub fresh_sound : (B : ℕ) → first_owned ≤ B → Sound B (fresh T P)
  fresh_sound B b = record {
    task_word = λ v. fresh_word _ v (fresh_task v);
    promise_word = λ q. unmade (zeros P q);
    owner_live = λ q u h o. absurd (omega (arith, zeros P q));
    awaited_owned = λ v p w. absurd (none_waits v p w (fresh_task v));
    blamed_ended = λ q u h o. absurd (omega (arith, zeros P q));
    chain_comes = λ v p w. absurd (none_waits v p w (fresh_task v));
  }

  pub fresh_good : (F : Form) → Apart F → T ≤ F.most_tasks → P ≤ F.most_promises → Good F (fresh T P)
  fresh_good F apart most most' = record {
    sizes =
        let (lt, lp) = fresh_lengths T P in
        sizes_fit_of F (fresh T P) (record { some = rw lt some; tasks = rw lt most; promises = rw lp most' });
    sound = fresh_sound F.base (omega (arith, apart));
  }
