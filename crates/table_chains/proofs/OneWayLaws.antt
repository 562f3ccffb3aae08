-- Where every link leads to a task of a lower rank, no chain comes back, and each comes to a ready task. Assumes
-- nothing.
use Prim.Native.Nat.{ℕ, zero, suc, ◌+◌, ◌-◌, ◌≤◌, ◌<◌}
use mathlib.Core.Path.{◌≡◌, ap, ◌∙◌}
use mathlib.Core.Logic.{◌⊎◌, inl, inr}
use mathlib.Core.Bool.{true}
use native.Mathlib.Omega.{arith}
use native.Mathlib.Decide.{dec_lt}
use lib.ListN.{length}
use Rattle.words.specs.Words.{ready_word, first_wait, owned_by}
use Rattle.words.specs.Lists.{all_below}
use Rattle.words.proofs.ListLaws.{all_below_make}
use Rattle.rules.specs.Tables.{Tables, task_at, promise_at, Live}
use Rattle.rules.specs.Chains.{view}
use Rattle.rules.specs.Sound.{hop, comes}
use Rattle.rules.proofs.BoundsLaws.{live_waits, live_is}
use Rattle.rules.proofs.SoundTest.{comes_in_time_lem}
use Rattle.rules.proofs.WalkLaws.{hop_yes, hop_to}
use Rattle.table_chains.specs.Marks.{chain_passes, Leads, LeadsWithin}
use Rattle.table_chains.proofs.ComesLaws.{comes_ready, comes_on}
use Rattle.table_chains.proofs.MarkLaws.{idle_passes, waiting_passes}

-- ---- the link of a waiting task, by the words: the word of the promise that it awaits, and the word of its owner

pub leads_by_words : (s : Tables) (low high v u : ℕ) → first_wait ≤ task_at s v
    → promise_at s (task_at s v - first_wait) ≡ owned_by u → u < length s.tasks → Live (task_at s u)
    → low ≤ u → u < high → Leads s low high v
unfolding hop
leads_by_words s low high v u w o b l least most = record {
  owner = u;
  hops = hop_to (length s.tasks) (view s) (task_at s v) (task_at s v - first_wait) u (omega (arith, w)) o b;
  alive = l;
  least = least;
  most = most;
}

module _ (s : Tables) (rank : ℕ → ℕ) where
  abbrev T : ℕ
  T = length s.tasks

  -- whoever waits leads to a live task of a lower rank
  pub record Lower (v : ℕ) : Type 0 where
    pub leads : Leads s 0 T v
    pub lower : rank leads.owner < rank v

  module _ (links : (v : ℕ) → v < T → first_wait ≤ task_at s v → Lower v) where
    live_comes : (n v : ℕ) → rank v < n → v < T → Live (task_at s v) → comes n T (view s) v ≡ true
    unfolding hop
    live_comes zero v h b l = absurd (omega arith)
    live_comes (suc n) v h b l = go (live_is (task_at s v) l) (live_comes n)
      where
        go : (task_at s v ≡ ready_word) ⊎ (first_wait ≤ task_at s v)
            → ((x : ℕ) → rank x < n → x < T → Live (task_at s x) → comes n T (view s) x ≡ true)
            → comes (suc n) T (view s) v ≡ true
        go (inl e) rec = comes_ready T (view s) v (suc n) (omega arith) (hop_yes T (view s) (task_at s v) e)
        go (inr w) rec =
            let k = links v b w in
            let x = k.leads.owner in
            let f : suc n - 1 ≡ n = omega arith in
            comes_on T (view s) v (suc n) x (omega arith) k.leads.hops
            ∙ ap (λ (m : ℕ). comes m T (view s) x) f
            ∙ rec x (omega (arith, k.lower)) k.leads.most k.leads.alive

    ranked : all_below T (chain_passes s) ≡ true
    ranked = all_below_make T (chain_passes s) (λ v b. go v b (dec_lt (task_at s v) first_wait))
      where
        go : (v : ℕ) → v < T → Dec (task_at s v < first_wait) → chain_passes s v ≡ true
        go v b (yes h) = idle_passes s v h
        go v b (no n) =
            let w : first_wait ≤ task_at s v = omega arith in
            waiting_passes s v w
            ∙ comes_in_time_lem s (suc (rank v)) v
            (live_comes (suc (rank v)) v (omega arith) b (live_waits (task_at s v) w))

module _ (s : Tables) where
  abbrev count : ℕ
  count = length s.tasks

  pub all_lead_up : ((v : ℕ) → v < count → LeadsWithin s (v + 1) count v) → all_below count (chain_passes s) ≡ true
  all_lead_up h = ranked s (λ v. count - v) (λ v b w. go v b (h v b w))
    where
      go : (v : ℕ) → v < count → Leads s (v + 1) count v → Lower s (λ u. count - u) v
      go v b l = record {
        leads = record {
          owner = l.owner;
          hops = l.hops;
          alive = l.alive;
          least = omega arith;
          most = l.most;
        };
        lower = omega (arith, l.least, l.most);
      }

  pub all_lead_down : ((v : ℕ) → v < count → LeadsWithin s 0 v v) → all_below count (chain_passes s) ≡ true
  all_lead_down h = ranked s (λ v. v) (λ v b w. go v b (h v b w))
    where
      go : (v : ℕ) → v < count → Leads s 0 v v → Lower s (λ u. u) v
      go v b l = record {
        leads = record {
          owner = l.owner;
          hops = l.hops;
          alive = l.alive;
          least = omega arith;
          most = omega (arith, l.most);
        };
        lower = l.most;
      }
