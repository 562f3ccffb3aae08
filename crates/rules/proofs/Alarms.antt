-- Demand 2 over the definitions, its second sentence: a get alarms exactly when the owners from the promise lead back
-- to the asker, and reports that ring; the count that it answers is the number of these owners, alarm or not. It
-- answers value and blamed exactly of a set and a blamed promise. Assumes nothing.
use mathlib.Core.Path.{◌≡◌, sym, ap, subst, ◌∙◌}
use mathlib.Core.Logic.{◌≢◌}
use mathlib.Core.List.{List, [], ◌∷◌}
use Prim.Native.Nat.{ℕ, zero, suc, ◌+◌, ◌-◌, ◌≤◌, ◌<◌}
use native.Mathlib.Omega.{arith}
use native.Mathlib.Decide.{ℕ_discrete}
use lib.ListN.{length, length-set}
use lib.Seq.{get_or-set_same, get_or-set_other}
use Rattle.words.specs.Words.{Form, ready_word, waits_on, first_owned, unmade_word, set_word, owned_by, blamed_on}
use Rattle.words.specs.Lists.{In}
use Rattle.words.proofs.ListLaws.{within_table}
use Rattle.rules.specs.Tables.{Tables, room_of, task_at, promise_at, live_tasks}
use Rattle.rules.specs.Chains.{Chain, chain_end, view, awaited_by, owner_of, graph, waits}
use Rattle.rules.specs.Sound.{Sound, hop}
use Rattle.rules.specs.Refusals.{get_rows}
use Rattle.rules.specs.Steps.{step_get, Outcome, outcome, with_wait, Found, astray, back, free, walk, walk_from}
use Rattle.rules.specs.Steps.{pairs, followed, got, step}
use Rattle.rules.specs.Demands.{Apart, Good, Refusal, OwnersFrom, owners, LeadsTo, at_last, and_then, Stands}
use Rattle.rules.specs.Demands.{Alarm, Wait}
use Rattle.rules.specs.declared.Answer.{Answer}
use Rattle.rules.specs.declared.Answer.TheVariants.{Value, Blamed, Waits, Cycle}
use Rattle.rules.proofs.GuardLaws.{guarded_none}
use Rattle.rules.proofs.Accepted.{owner_chain, got_owned, got_back, got_free, got_set, got_blamed, got_is}
use Rattle.rules.proofs.GraphLaws.{unique, end_ready, ready_is_end, in_end}
use Rattle.rules.proofs.Kept.{fits, accepted_good, accepted_room, ready_passes}
use Rattle.rules.proofs.Moves.{det}
use Rattle.rules.proofs.Named.{accepted}
use Rattle.words.proofs.BoolLaws.{clash}
use Rattle.rules.proofs.Order.{step_guarded}
use Rattle.rules.proofs.RefusalLaws.{Acts, actor_rows_none, get_rows_none, made_passes}
use Rattle.rules.proofs.SoundTest.{chain_bound}
use Rattle.rules.proofs.StepMoves.{get_chain}
use Rattle.rules.proofs.WalkLaws.{HopIs, is_ready, is_to, is_lost, hop_is, walk_zero, walk_here, walk_ready}
use Rattle.rules.proofs.WalkLaws.{walk_lost, walk_on}

-- ---- the owners from a promise

-- they are at most as many as the live tasks
pub owners_bound : (s : Tables) (p : ℕ) (l : List ℕ) → OwnersFrom s p l → length l ≤ live_tasks s
owners_bound s p l (owners h o c) = chain_bound s c

-- there is one list of them for an owned promise of sound tables
pub owners_one : (s : Tables) (p : ℕ) (l l' : List ℕ) → OwnersFrom s p l → OwnersFrom s p l' → l ≡ l'
owners_one s p l l' (owners {u = u} {l = k} h o c) (owners {u = u'} {l = k'} h' o' c') =
    let e : u ≡ u' = omega arith in
    let c₁ : Chain (waits s) u k' = subst (λ (x : ℕ). Chain (waits s) x k') (sym e) c' in
    ap (λ (x : List ℕ). u ∷ x) (unique (waits s) (det (length s.tasks) (view s)) c c₁) ∙ ap (λ (x : ℕ). x ∷ k') e

pub owners_some : (F : Form) (s : Tables) → first_owned + length s.tasks ≤ F.base → Sound F.base s → (p u : ℕ)
    → u < length s.tasks → promise_at s p ≡ owned_by u
    → (l : List ℕ) × OwnersFrom s p l
owners_some F s f sd p u h o = let (l, c) = owner_chain F s f sd p u h o in (u ∷ l, owners h o c)

-- ---- the report shows the ring

-- what a walk went through on its way back to t would, had t waited on p, lead to t
module _ (s : Tables) (t p : ℕ) where
  -- from v, which waits on q, the pairs that it still shows lead to t
  abbrev Led : ℕ → ℕ → ℕ → ℕ → Type 0
  Led j k v q = (m : ℕ) × (k ≡ j + m) × LeadsTo (with_wait s t p) t v q (pairs (suc m) (view s) v q)

  walk_leads : (n j k u v q : ℕ) → walk n (length s.tasks) (view s) t u j ≡ back k → promise_at s q ≡ owned_by u
      → task_at (with_wait s t p) v ≡ waits_on q → Led j k v q
  unfolding pairs hop
  walk_leads zero j k u v q e o w =
      let z : astray ≡ back k = sym (walk_zero (length s.tasks) (view s) t u j 0 (omega arith)) ∙ e in clash cc
  walk_leads (suc n) j k u v q e o w =
      go (ℕ_discrete u t) (hop_is (length s.tasks) (view s) (task_at s u)) (λ x i. walk_leads n (j + 1) k x u i)
    where
      go : Dec (u ≡ t) → HopIs (length s.tasks) (view s) (task_at s u)
          → ((x i : ℕ) → walk n (length s.tasks) (view s) t x (j + 1) ≡ back k → promise_at s i ≡ owned_by x
          → task_at (with_wait s t p) u ≡ waits_on i → Led (j + 1) k u i)
          → Led j k v q
      go (yes z) h rec =
          let b : back j ≡ back k = sym (walk_here (length s.tasks) (view s) t u j (suc n) (omega arith) z) ∙ e in
          let c : j ≡ k = cc in
          (0, omega arith, at_last w (o ∙ ap owned_by z))
      go (no z) (is_ready x h) rec =
          let b : free j ≡ back k = sym (walk_ready (length s.tasks) (view s) t u j (suc n) (omega arith) z h) ∙ e in
          clash cc
      go (no z) (is_lost x y h) rec =
          let b : astray ≡ back k = sym (walk_lost (length s.tasks) (view s) t u j (suc n) (omega arith) z h) ∙ e in
          clash cc
      go (no z) (is_to i x w' o' b h) rec =
          let i' : n ≡ suc n - 1 = omega arith in
          let c : walk n (length s.tasks) (view s) t x (j + 1) ≡ back k =
          ap (λ (y : ℕ). walk y (length s.tasks) (view s) t x (j + 1)) i'
          ∙ sym (walk_on (length s.tasks) (view s) t u j (suc n) x (omega arith) z h) ∙ e in
          let (m, f, l) = rec x i c o' (get_or-set_other s.tasks t u (waits_on p) 0 z ∙ w') in
          let y : owner_of (view s) q ≡ u = omega arith in
          let y' : awaited_by (view s) u ≡ i = omega arith in
          (suc m, omega arith, rw (y, y') (and_then w o z l))

  followed_cycle : (k : ℕ) (f : Found) → (followed s t p f).answer ≡ Cycle k
      → (f ≡ back k) × ((followed s t p f).words ≡ pairs k (view s) t p)
  unfolding followed
  followed_cycle k (back i) e = let z : i ≡ k = cc in (ap back z, ap (λ (x : ℕ). pairs x (view s) t p) z)
  followed_cycle k (free i) e = clash cc
  followed_cycle k astray e = clash cc

  -- an alarm shows the ring that would stand
  pub followed_stands : t < length s.tasks → (k u : ℕ) → promise_at s p ≡ owned_by u → (x : Outcome)
      → x ≡ followed s t p (walk_from s t u) → x.answer ≡ Cycle k
      → Stands (with_wait s t p) t p x.words
  followed_stands h k u o x e alarm =
      let (a, b) = followed_cycle k _ (sym (ap (λ (y : Outcome). y.answer) e) ∙ alarm) in
      let (m, q, l) = walk_leads (length s.tasks) 1 k u t p a o (get_or-set_same s.tasks t (waits_on p) 0 h) in
      let c : suc m ≡ k = omega arith in
      subst (Stands (with_wait s t p) t p)
      (ap (λ (i : ℕ). pairs i (view s) t p) c ∙ sym b ∙ sym (ap (λ (y : Outcome). y.words) e)) l

module _ (F : Form) (apart : Apart F) (n : ℕ) (s : Tables) (g : Good F s) (room : room_of s ≤ n) where
  -- a get of a ready task on a promise that was made is not refused
  get_accepted : (t p : ℕ) → task_at s t ≡ ready_word → promise_at s p ≢ unmade_word
      → step F n s (step_get t p) ≡ got F.base s t p (promise_at s p)
  get_accepted t p r m =
      step_guarded F n s (step_get t p)
      ∙ guarded_none _ _ s _
      (ready_passes F apart n s g room t r (get_rows s.promises p) ∙ made_passes s.promises p m)

  -- of a set promise it answers value, and of a blamed one who is blamed
  pub get_value : (t p : ℕ) → task_at s t ≡ ready_word → promise_at s p ≡ set_word
      → step F n s (step_get t p) ≡ outcome Value s []
  get_value t p r o =
      get_accepted t p r (λ (z : promise_at s p ≡ unmade_word). omega arith)
      ∙ got_set F s (fits F apart s g.sizes) t p o

  pub get_blamed : (t p b : ℕ) → task_at s t ≡ ready_word → promise_at s p ≡ blamed_on F.base b
      → step F n s (step_get t p) ≡ outcome (Blamed b) s []
  get_blamed t p b r o =
      get_accepted t p r (λ (z : promise_at s p ≡ unmade_word). omega (arith, apart))
      ∙ got_blamed F s (fits F apart s g.sizes) t p b o

  -- where the asker is one of the owners, it alarms
  pub get_alarms : (t p : ℕ) (l : List ℕ) → task_at s t ≡ ready_word → OwnersFrom s p l → In t l
      → step F n s (step_get t p) ≡ outcome (Cycle (length l)) s (pairs (length l) (view s) t p)
  unfolding followed
  get_alarms t p l r (owners {u = u} {l = k} h o c) i =
      get_accepted t p r (λ (z : promise_at s p ≡ unmade_word). omega arith)
      ∙ got_back F s (fits F apart s g.sizes) g.sound t p u r h o c
      (sym (ready_is_end (waits s) (det (length s.tasks) (view s)) c i r))
      ∙ ap (λ (x : ℕ). followed s t p (back x)) (omega arith)

  -- where it is not, it waits, and from then on these owners are its chain
  pub get_waits : (t p : ℕ) (l : List ℕ) → task_at s t ≡ ready_word → OwnersFrom s p l → (In t l → ⊥)
      → (step F n s (step_get t p) ≡ outcome (Waits (length l)) (with_wait s t p) [])
      × Chain (waits (with_wait s t p)) t l
  unfolding followed
  get_waits t p l r (owners {u = u} {l = k} h o c) i =
      let far : chain_end u k ≢ t = λ (z : chain_end u k ≡ t). i (subst (λ (x : ℕ). In x (u ∷ k)) z (in_end u k)) in
      let b : t < length s.tasks = within_table s.tasks t (λ (z : task_at s t ≡ 0). omega arith) in
      let q : p < length s.promises = within_table s.promises p (λ (z : promise_at s p ≡ 0). omega arith) in
      let f = fits F apart s g.sizes in (
        get_accepted t p r (λ (z : promise_at s p ≡ unmade_word). omega arith)
            ∙ got_free F s f g.sound t p u r h o c far ∙ ap (λ (x : ℕ). followed s t p (free x)) (omega arith),
        subst (λ (x : ℕ). Chain (graph x (view (with_wait s t p))) t (u ∷ k)) (sym (length-set s.tasks t (waits_on p)))
            (get_chain (length s.tasks) (length s.promises) F.base f s g.sound t b r p u h o q b k c far),
      )

-- ---- and back: what an alarm means, and a wait, value and blamed, in whatever tables they were given

module _ (F : Form) (apart : Apart F) (n : ℕ) (s : Tables) where
  -- a get that is not refused is one of a ready task, on a promise that was made, in good tables
  get_found : (t p : ℕ) (a : Answer) → (Refusal a → ⊥) → (step F n s (step_get t p)).answer ≡ a
      → Good F s × Acts s.tasks t × (p < length s.promises) × (promise_at s p ≢ unmade_word)
      × (step F n s (step_get t p) ≡ got F.base s t p (promise_at s p))
  get_found t p a h e =
      let (z, o) = accepted F n s (step_get t p) a h e in
      let (act, z₁) = actor_rows_none s.tasks t (get_rows s.promises p) z in
      let (b, m) = get_rows_none s.promises p z₁ in
      (accepted_good F apart n s (step_get t p) a h e, act, b, m, o)

  pub alarm_means : (t p k : ℕ) → (step F n s (step_get t p)).answer ≡ Cycle k
      → Alarm s t p k (step F n s (step_get t p)).words
  unfolding followed
  alarm_means t p k e =
      let (g, act, h, m, o) = get_found t p (Cycle k) (λ r. elim r [ ]) e in
      let f = fits F apart s g.sizes in
      got_is F s f g.sound t p
      (λ (x : Outcome). x.answer ≡ Cycle k → Alarm s t p k (step F n s (step_get t p)).words) act.ready h m
      (λ x (z : Value ≡ Cycle k). clash cc)
      (λ b y x (z : Blamed b ≡ Cycle k). clash cc)
      (λ u l b w c y (z : Cycle (1 + length l) ≡ Cycle k).
      let x : 1 + length l ≡ k = cc in
      record {
        ready = act.ready;
        links = u ∷ l;
        owners = owners b w c;
        back = subst (λ (x : ℕ). In x (u ∷ l)) y (in_end u l);
        count = omega arith;
        ring = followed_stands s t p act.below k u w (step F n s (step_get t p)) (o ∙ got_owned F s f t p u b w) e;
      })
      (λ u l b w c y (z : Waits (1 + length l) ≡ Cycle k). clash cc)
      (sym (ap (λ (x : Outcome). x.answer) o) ∙ e)

  -- and what a wait means
  pub wait_means : (t p k : ℕ) → (step F n s (step_get t p)).answer ≡ Waits k → Wait s t p k
  unfolding followed
  wait_means t p k e =
      let (g, act, h, m, o) = get_found t p (Waits k) (λ r. elim r [ ]) e in
      let r = act.ready in
      got_is F s (fits F apart s g.sizes) g.sound t p (λ (x : Outcome). x.answer ≡ Waits k → Wait s t p k) r h m
      (λ x (z : Value ≡ Waits k). clash cc)
      (λ b y x (z : Blamed b ≡ Waits k). clash cc)
      (λ u l b w c y (z : Cycle (1 + length l) ≡ Waits k). clash cc)
      (λ u l b w c y (z : Waits (1 + length l) ≡ Waits k).
      let x : 1 + length l ≡ k = cc in
      record {
        ready = r;
        links = u ∷ l;
        owners = owners b w c;
        end_ready = end_ready (waits s) c;
        not_back = λ i. y (sym (ready_is_end (waits s) (det (length s.tasks) (view s)) c i r));
        count = omega arith;
      })
      (sym (ap (λ (x : Outcome). x.answer) o) ∙ e)

  -- and what value and blamed mean
  pub value_means : (t p : ℕ) → (step F n s (step_get t p)).answer ≡ Value
      → (task_at s t ≡ ready_word) × (promise_at s p ≡ set_word)
  unfolding followed
  value_means t p e =
      let (g, act, h, m, o) = get_found t p Value (λ r. elim r [ ]) e in (
        act.ready,
        got_is F s (fits F apart s g.sizes) g.sound t p
            (λ (x : Outcome). x.answer ≡ Value → promise_at s p ≡ set_word) act.ready h m
            (λ x z. x)
            (λ b y x (z : Blamed b ≡ Value). clash cc)
            (λ u l b w c y (z : Cycle (1 + length l) ≡ Value). clash cc)
            (λ u l b w c y (z : Waits (1 + length l) ≡ Value). clash cc)
            (sym (ap (λ (x : Outcome). x.answer) o) ∙ e),
      )

  pub blamed_means : (t p b : ℕ) → (step F n s (step_get t p)).answer ≡ Blamed b
      → (task_at s t ≡ ready_word) × (promise_at s p ≡ blamed_on F.base b)
  unfolding followed
  blamed_means t p b e =
      let (g, act, h, m, o) = get_found t p (Blamed b) (λ r. elim r [ ]) e in (
        act.ready,
        got_is F s (fits F apart s g.sizes) g.sound t p
            (λ (x : Outcome). x.answer ≡ Blamed b → promise_at s p ≡ blamed_on F.base b) act.ready h m
            (λ x (z : Value ≡ Blamed b). clash cc)
            (λ c y x (z : Blamed c ≡ Blamed b). let k : c ≡ b = cc in x ∙ ap (blamed_on F.base) k)
            (λ u l x w c y (z : Cycle (1 + length l) ≡ Blamed b). clash cc)
            (λ u l x w c y (z : Waits (1 + length l) ≡ Blamed b). clash cc)
            (sym (ap (λ (x : Outcome). x.answer) o) ∙ e),
      )

  -- an alarm changes no table
  pub alarm_unchanged : (t p k : ℕ) → (step F n s (step_get t p)).answer ≡ Cycle k
      → (step F n s (step_get t p)).after ≡ s
  alarm_unchanged t p k e =
      let a = alarm_means t p k e in
      let g = accepted_good F apart n s (step_get t p) (Cycle k) (λ r. elim r [ ]) e in
      let room = accepted_room F apart n s (step_get t p) (Cycle k) (λ r. elim r [ ]) e in
      ap (λ (o : Outcome). o.after) (get_alarms F apart n s g room t p a.links a.ready a.owners a.back)
