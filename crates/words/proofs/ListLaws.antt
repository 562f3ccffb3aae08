-- Laws of specs/Lists.antt. A law that a loop cites is said at the loop's own i and i + 1. Assumes nothing.
use Prim.Native.Nat.{ℕ, zero, suc, ◌+◌, ◌-◌, ◌≤◌, ◌<◌}
use mathlib.Core.Path.{◌≡◌, refl, sym, ap, subst, ◌∙◌}
use mathlib.Core.Logic.{◌⊎◌, inl, inr, ◌≢◌, ⊎_elim}
use mathlib.Core.List.{List, [], ◌∷◌, ◌++◌, map}
use mathlib.Core.Bool.{Bool, true, false, cond, ◌&&◌, ◌||◌}
use native.Mathlib.Omega.{arith}
use native.Mathlib.Decide.{ℕ_discrete, dec_lt}
use native.Mathlib.Numerals.{add-one}
use native.Mathlib.Nat.{zero-add, add-zero, add-suc, suc-add, eq-or-lt_of_le, le_of_suc-le-suc}
use lib.Dec.{eqb}
use borrow.Author.Tests.{eq-eqb, ne_eqb, eqb-true}
use lib.ListN
use lib.ListN.{length, get_or, set, drop, replicate, length-map, get_or-eq_default, drop_of_length-le}
use lib.ListN.{length-append, length-drop}
use lib.Seq.{drop-cons, sets, sets-eq, get_or-set_same, get_or-set_other}
use Rattle.words.specs.Lists.{all_below, is, places, changed, replaced, count, over, In, top, pop, Rising, none}
use Rattle.words.specs.Lists.{one, more}
use Rattle.words.proofs.BoolLaws.{and_yes, and_split, and_false, and_swap, or_split, cond_true, cond_false}
use Rattle.words.proofs.BoolLaws.{true_is_not_false}

-- ---- all_below

pub all_below_at : (n : ℕ) (f : ℕ → Bool) → all_below n f ≡ true → (i : ℕ) → i < n → f i ≡ true
unfolding all_below
all_below_at zero f e i h = absurd (omega arith)
all_below_at (suc n) f e i h = go (all_below_at n f (and_split (all_below n f) (f n) e).0 i) (ℕ_discrete i n)
  where
    go : (i < n → f i ≡ true) → Dec (i ≡ n) → f i ≡ true
    go rec (yes z) = ap f z ∙ (and_split (all_below n f) (f n) e).1
    go rec (no z) = rec (omega arith)

pub all_below_make : (n : ℕ) (f : ℕ → Bool) → ((i : ℕ) → i < n → f i ≡ true) → all_below n f ≡ true
unfolding all_below
all_below_make zero f h = refl
all_below_make (suc n) f h = and_yes _ _ (all_below_make n f (λ i z. h i (omega arith))) (h n (omega arith))

pub all_below_none : (f : ℕ → Bool) → all_below 0 f ≡ true
unfolding all_below
all_below_none f = refl

-- one more number passes
pub all_below_more : (f : ℕ → Bool) (n : ℕ) → all_below n f ≡ true → f n ≡ true → all_below (n + 1) f ≡ true
unfolding all_below
all_below_more f n p q = rw (add-one, p, q)

-- one that fails makes it false for every larger bound
pub all_below_fails : (f : ℕ → Bool) (i n : ℕ) → i < n → f i ≡ false → all_below n f ≡ false
unfolding all_below
all_below_fails f i zero h p = absurd (omega arith)
all_below_fails f i (suc n) h p =
    ⊎_elim (λ (q : i ≡ n). rw (← q, p) (and_false (all_below i f))) (λ (q : i < n). rw (all_below_fails f i n q p))
    (eq-or-lt_of_le (le_of_suc-le-suc h))

-- tests that agree on each number, and two tests in one
pub all_below_same : (n : ℕ) (f g : ℕ → Bool) → ((i : ℕ) → i < n → f i ≡ g i) → all_below n f ≡ all_below n g
unfolding all_below
all_below_same zero f g h = refl
all_below_same (suc n) f g h = rw (all_below_same n f g (λ i z. h i (omega arith)), h n (omega arith))

pub all_below_and : (n : ℕ) (f g : ℕ → Bool) → all_below n (λ i. f i && g i) ≡ (all_below n f && all_below n g)
unfolding all_below
all_below_and zero f g = refl
all_below_and (suc n) f g = rw (all_below_and n f g) (and_swap (all_below n f) (all_below n g) (f n) (g n))

-- ---- is, changed, replaced

pub is_hit : (v w : ℕ) → w ≡ v → is v w ≡ true
unfolding is
is_hit v w e = eq-eqb w v e

pub is_miss : (v w : ℕ) → w ≢ v → is v w ≡ false
unfolding is
is_miss v w n = ne_eqb w v n

pub is_true : (v w : ℕ) → is v w ≡ true → w ≡ v
unfolding is
is_true v w e = eqb-true w v e

pub changed_hit : (f : ℕ → Bool) (x w : ℕ) → f w ≡ true → changed f x w ≡ x
unfolding changed
changed_hit f x w e = cond_true (f w) x w e

pub changed_miss : (f : ℕ → Bool) (x w : ℕ) → f w ≡ false → changed f x w ≡ w
unfolding changed
changed_miss f x w e = cond_false (f w) x w e

-- a map that leaves 0 acts on the word that is read
pub get_or_map : (f : ℕ → ℕ) (l : List ℕ) (n : ℕ) → f 0 ≡ 0 → get_or (map f l) n 0 ≡ f (get_or l n 0)
get_or_map f l n z = subst (λ (d : ℕ). get_or (map f l) n d ≡ f (get_or l n 0)) z (ListN.get_or-map f l n 0)

pub replaced_hit : (f : ℕ → Bool) (x : ℕ) (l : List ℕ) (n : ℕ) → f 0 ≡ false → f (get_or l n 0) ≡ true
    → get_or (replaced f x l) n 0 ≡ x
replaced_hit f x l n z e = get_or_map (changed f x) l n (changed_miss f x 0 z) ∙ changed_hit f x (get_or l n 0) e

pub replaced_miss : (f : ℕ → Bool) (x : ℕ) (l : List ℕ) (n : ℕ) → f 0 ≡ false → f (get_or l n 0) ≡ false
    → get_or (replaced f x l) n 0 ≡ get_or l n 0
replaced_miss f x l n z e = get_or_map (changed f x) l n (changed_miss f x 0 z) ∙ changed_miss f x (get_or l n 0) e

pub length_replaced : (f : ℕ → Bool) (x : ℕ) (l : List ℕ) → length (replaced f x l) ≡ length l
length_replaced f x l = length-map l (changed f x)

-- ---- a table of which the first i words have been mapped: what a loop that goes through a table has after i turns

unfoldable pub mapped : (ℕ → ℕ) → ℕ → List ℕ → List ℕ
mapped f zero xs = xs
mapped f (suc i) [] = []
mapped f (suc i) (x ∷ xs) = f x ∷ mapped f i xs

pub mapped_none : (f : ℕ → ℕ) (xs : List ℕ) → xs ≡ mapped f 0 xs
unfolding mapped
mapped_none f xs = refl

mapped_set : (f : ℕ → ℕ) (i : ℕ) (xs : List ℕ) → set (mapped f i xs) i (f (get_or xs i 0)) ≡ mapped f (suc i) xs
unfolding mapped
mapped_set f zero [] = refl
mapped_set f (suc i) [] = refl
mapped_set f zero (x ∷ xs) = refl
mapped_set f (suc i) (x ∷ xs) = ap (λ (r : List ℕ). f x ∷ r) (mapped_set f i xs)

pub mapped_more : (f : ℕ → ℕ) (i : ℕ) (xs : List ℕ) → set (mapped f i xs) i (f (get_or xs i 0)) ≡ mapped f (i + 1) xs
mapped_more f i xs = rw add-one (mapped_set f i xs)

pub mapped_get : (f : ℕ → ℕ) (i : ℕ) (xs : List ℕ) → get_or (mapped f i xs) i 0 ≡ get_or xs i 0
unfolding mapped
mapped_get f zero xs = refl
mapped_get f (suc i) [] = refl
mapped_get f (suc i) (x ∷ xs) = mapped_get f i xs

pub mapped_all : (f : ℕ → ℕ) (xs : List ℕ) → mapped f (length xs) xs ≡ map f xs
unfolding mapped
mapped_all f [] = refl
mapped_all f (x ∷ xs) = ap (λ (r : List ℕ). f x ∷ r) (mapped_all f xs)

pub mapped_length : (f : ℕ → ℕ) (i : ℕ) (xs : List ℕ) → length (mapped f i xs) ≡ length xs
unfolding mapped
mapped_length f zero xs = refl
mapped_length f (suc i) [] = refl
mapped_length f (suc i) (x ∷ xs) = ap suc (mapped_length f i xs)

-- ---- a store

-- what holds of the word stored and of each other word holds of each word after it
pub set_each : {A : Type 0} (P : ℕ → A → Type 0) (l : List A) (i : ℕ) (a d : A) → i < length l → P i a
    → ((j : ℕ) → j ≢ i → P j (get_or l j d)) → (j : ℕ) → P j (get_or (set l i a) j d)
set_each {A} P l i a d h new old j = go (ℕ_discrete j i)
  where
    go : Dec (j ≡ i) → P j (get_or (set l i a) j d)
    go (yes e) =
        subst (λ (k : ℕ). P k (get_or (set l i a) k d)) (sym e) (subst (P i) (sym (get_or-set_same l i a d h)) new)
    go (no n) = subst (P j) (sym (get_or-set_other l i j a d n)) (old j n)

-- a list of one value reads as that value, past its end too
pub get_or_replicate_same : {A : Type 0} (n i : ℕ) (a : A) → get_or (replicate n a) i a ≡ a
get_or_replicate_same zero i a = refl
get_or_replicate_same (suc n) zero a = refl
get_or_replicate_same (suc n) (suc i) a = get_or_replicate_same n i a

-- ---- places

-- one word of the rest that is still to be read
pub places_step : (f : ℕ → Bool) (ws : List ℕ) (i : ℕ) → i < length ws
    → places f i (drop i ws)
    ≡ cond (f (get_or ws i 0)) (i ∷ places f (i + 1) (drop (i + 1) ws)) (places f (i + 1) (drop (i + 1) ws))
unfolding places
places_step f ws i h = rw (add-one, drop-cons ws i 0 h)

pub places_end : (f : ℕ → Bool) (ws : List ℕ) (i : ℕ) → length ws ≤ i → places f i (drop i ws) ≡ []
unfolding places
places_end f ws i h = rw (drop_of_length-le ws h)

cond_longer : (b : Bool) (i : ℕ) (xs : List ℕ) (n : ℕ) → length xs ≤ n → length (cond b (i ∷ xs) xs) ≤ suc n
cond_longer true i xs n h = omega arith
cond_longer false i xs n h = omega arith

pub places_length : (f : ℕ → Bool) (i : ℕ) (ws : List ℕ) → length (places f i ws) ≤ length ws
unfolding places
places_length f i [] = omega arith
places_length f i (w ∷ ws) = cond_longer (f w) i _ _ (places_length f (suc i) ws)

-- ---- In

pub in_nil : (x : ℕ) → In x [] → ⊥
in_nil x i = elim i [ ]

pub in_cons : {x y : ℕ} {xs : List ℕ} → In x (y ∷ xs) → (x ≡ y) ⊎ In x xs
in_cons top = inl refl
in_cons (pop i) = inr i

pub in_left : {x : ℕ} {xs : List ℕ} (ys : List ℕ) → In x xs → In x (xs ++ ys)
in_left ys top = top
in_left ys (pop i) = pop (in_left ys i)

pub in_right : {x : ℕ} (xs : List ℕ) {ys : List ℕ} → In x ys → In x (xs ++ ys)
in_right [] i = i
in_right (x ∷ xs) i = pop (in_right xs i)

-- what all pass, each passes
abbrev pub all_pass : (ℕ → Bool) → List ℕ → Bool
all_pass f [] = true
all_pass f (x ∷ xs) = f x && all_pass f xs

pub in_passes : (f : ℕ → Bool) {x : ℕ} {xs : List ℕ} → all_pass f xs ≡ true → In x xs → f x ≡ true
in_passes f {x} e (top {xs = xs}) = (and_split (f x) (all_pass f xs) e).0
in_passes f e (pop {y = y} {xs = xs} i) = in_passes f (and_split (f y) (all_pass f xs) e).1 i

-- one of a list, as a test
abbrev pub is_in : List ℕ → ℕ → Bool
is_in [] x = false
is_in (y ∷ ys) x = eqb x y || is_in ys x

pub is_in_true : (ys : List ℕ) (x : ℕ) → is_in ys x ≡ true → In x ys
is_in_true [] x e = true_is_not_false (sym e)
is_in_true (y ∷ ys) x e =
    ⊎_elim (λ (h : eqb x y ≡ true). subst (λ (z : ℕ). In x (z ∷ ys)) (eqb-true x y h) top)
    (λ h. pop (is_in_true ys x h))
    (or_split (eqb x y) (is_in ys x) e)

-- ---- the places are exactly those of the words that pass, rising

-- x is i or more, and the word at x, counted from i, passes
pub record At (f : ℕ → Bool) (i : ℕ) (ws : List ℕ) (x : ℕ) : Type 0 where
  pub from : i ≤ x
  pub within : x < i + length ws
  pub passes : f (get_or ws (x - i) 0) ≡ true

at_head : (f : ℕ → Bool) (i w : ℕ) (ws : List ℕ) (x : ℕ) → x ≡ i → f w ≡ true → At f i (w ∷ ws) x
at_head f i w ws x z e =
    let k : x - i ≡ 0 = omega arith in
    record { from = omega arith; within = omega arith; passes = ap (λ (j : ℕ). f (get_or (w ∷ ws) j 0)) k ∙ e }

at_tail : (f : ℕ → Bool) (i w : ℕ) (ws : List ℕ) (x : ℕ) → At f (suc i) ws x → At f i (w ∷ ws) x
at_tail f i w ws x a =
    let k : x - i ≡ suc (x - suc i) = omega (arith, a.from) in
    record {
      from = omega (arith, a.from);
      within = omega (arith, a.within);
      passes = ap (λ (j : ℕ). f (get_or (w ∷ ws) j 0)) k ∙ a.passes;
    }

at_later : (f : ℕ → Bool) (i w : ℕ) (ws : List ℕ) (x : ℕ) → x ≢ i → At f i (w ∷ ws) x → At f (suc i) ws x
at_later f i w ws x n a =
    let k : x - i ≡ suc (x - suc i) = omega (arith, a.from) in
    record {
      from = omega (arith, a.from);
      within = omega (arith, a.within);
      passes = sym (ap (λ (j : ℕ). f (get_or (w ∷ ws) j 0)) k) ∙ a.passes;
    }

at_now : (f : ℕ → Bool) (i w : ℕ) (ws : List ℕ) (x : ℕ) → x ≡ i → At f i (w ∷ ws) x → f w ≡ true
at_now f i w ws x z a =
    let k : x - i ≡ 0 = omega arith in
    sym (ap (λ (j : ℕ). f (get_or (w ∷ ws) j 0)) k) ∙ a.passes

pub places_at : (f : ℕ → Bool) (i : ℕ) (ws : List ℕ) (x : ℕ) → In x (places f i ws) → At f i ws x
unfolding places
places_at f i [] x h = absurd (in_nil x h)
places_at f i (w ∷ ws) x h = go (f w) refl h (places_at f (suc i) ws x)
  where
    go : (b : Bool) → f w ≡ b → In x (cond b (i ∷ places f (suc i) ws) (places f (suc i) ws))
        → (In x (places f (suc i) ws) → At f (suc i) ws x) → At f i (w ∷ ws) x
    go true e k rec = ⊎_elim (λ (z : x ≡ i). at_head f i w ws x z e) (λ m. at_tail f i w ws x (rec m)) (in_cons k)
    go false e k rec = at_tail f i w ws x (rec k)

pub at_places : (f : ℕ → Bool) (i : ℕ) (ws : List ℕ) (x : ℕ) → At f i ws x → In x (places f i ws)
unfolding places
at_places f i [] x a = absurd (omega (arith, a.from, a.within))
at_places f i (w ∷ ws) x a = go (f w) refl (ℕ_discrete x i) (at_places f (suc i) ws x)
  where
    go : (b : Bool) → f w ≡ b → Dec (x ≡ i) → (At f (suc i) ws x → In x (places f (suc i) ws))
        → In x (cond b (i ∷ places f (suc i) ws) (places f (suc i) ws))
    go true e (yes z) rec = subst (λ (y : ℕ). In y (i ∷ places f (suc i) ws)) (sym z) top
    go true e (no n) rec = pop (rec (at_later f i w ws x n a))
    go false e (yes z) rec = absurd (true_is_not_false (sym (at_now f i w ws x z a) ∙ e))
    go false e (no n) rec = rec (at_later f i w ws x n a)

-- a rising list below which i can stand
rising_cons : (i : ℕ) (xs : List ℕ) → ((x : ℕ) → In x xs → i < x) → Rising xs → Rising (i ∷ xs)
rising_cons i [] h r = one
rising_cons i (y ∷ xs) h r = more (h y top) r

pub places_rising : (f : ℕ → Bool) (i : ℕ) (ws : List ℕ) → Rising (places f i ws)
unfolding places
places_rising f i [] = none
places_rising f i (w ∷ ws) = go (f w) (places_rising f (suc i) ws)
  where
    go : (b : Bool) → Rising (places f (suc i) ws) → Rising (cond b (i ∷ places f (suc i) ws) (places f (suc i) ws))
    go true r = rising_cons i (places f (suc i) ws) (λ x k. omega (arith, (places_at f (suc i) ws x k).from)) r
    go false r = r

-- ---- count

pub count_le : (f : ℕ → Bool) (ws : List ℕ) → count f ws ≤ length ws
unfolding count
count_le f [] = omega arith
count_le f (w ∷ ws) = go (f w) (count_le f ws)
  where
    go : (b : Bool) → count f ws ≤ length ws → cond b 1 0 + count f ws ≤ suc (length ws)
    go true h = omega arith
    go false h = omega arith

-- a word that passes, put to one that does not, is one fewer
pub count_set : (f : ℕ → Bool) (x : ℕ) → f 0 ≡ false → f x ≡ false → (ws : List ℕ) (i : ℕ) → f (get_or ws i 0) ≡ true
    → count f ws ≡ suc (count f (set ws i x))
unfolding count
count_set f x f0 fx [] i h = absurd (true_is_not_false (sym h ∙ f0))
count_set f x f0 fx (w ∷ ws) zero h =
    let a : cond {A = ℕ} (f w) 1 0 ≡ 1 = cond_true (f w) 1 0 h in
    let b : cond {A = ℕ} (f x) 1 0 ≡ 0 = cond_false (f x) 1 0 fx in
    omega arith
count_set f x f0 fx (w ∷ ws) (suc i) h =
    let r = count_set f x f0 fx ws i h in
    omega arith

pub count_map : (f : ℕ → Bool) (h : ℕ → ℕ) → ((w : ℕ) → f (h w) ≡ f w) → (ws : List ℕ) → count f (map h ws) ≡ count f ws
unfolding count
count_map f h e [] = refl
count_map f h e (w ∷ ws) =
    let r = count_map f h e ws in
    let a : cond {A = ℕ} (f (h w)) 1 0 ≡ cond (f w) 1 0 = ap (λ (b : Bool). cond {A = ℕ} b 1 0) (e w) in
    omega arith

-- no number stands twice
pub data NoDup : List ℕ → Type 0 where
  no_more : NoDup []
  another : {x : ℕ} {l : List ℕ} → (In x l → ⊥) → NoDup l → NoDup (x ∷ l)

-- The pigeonhole bound: different places of a table whose words pass a test are at most as many as the table's words
-- that pass it.
pub pigeon : (f : ℕ → Bool) → f 0 ≡ false → (l ws : List ℕ) → NoDup l → ((x : ℕ) → In x l → f (get_or ws x 0) ≡ true)
    → length l ≤ count f ws
pigeon f f0 l ws no_more h = omega arith
pigeon f f0 l ws (another {x = x} {l = r} out n) h =
    let c = count_set f 0 f0 f0 ws x (h x top) in
    let b = pigeon f f0 r (set ws x 0) n rest in
    omega arith
  where
    rest : (y : ℕ) → In y r → f (get_or (set ws x 0) y 0) ≡ true
    rest y i = rw (get_or-set_other ws x y 0 0 (λ (e : y ≡ x). out (subst (λ (z : ℕ). In z r) e i))) (h y (pop i))

-- ---- over

-- a run of stores from the start, where there is room for it
pub over_sets : (xs ws : List ℕ) → length xs ≤ length ws → over xs ws ≡ sets ws 0 xs
unfolding over
over_sets xs ws h = sym (sets-eq xs ws 0 (omega arith) ∙ ap (λ (k : ℕ). xs ++ drop k ws) (zero-add (length xs)))

pub over_none : (ws : List ℕ) → over [] ws ≡ ws
unfolding over
over_none ws = refl

pub over_length : (xs ws : List ℕ) → length xs ≤ length ws → length (over xs ws) ≡ length ws
unfolding over
over_length xs ws h = simp (length-append, length-drop) (omega arith)

-- a run of stores in two parts
pub sets_append : (l : List ℕ) (i : ℕ) (xs ys : List ℕ) → sets l i (xs ++ ys) ≡ sets (sets l i xs) (i + length xs) ys
sets_append l i [] ys = rw add-zero
sets_append l i (x ∷ xs) ys = rw (add-suc, ← suc-add) (sets_append (set l i x) (suc i) xs ys)

-- a word that is not 0 stands within the table
pub within_table : (ws : List ℕ) (v : ℕ) → get_or ws v 0 ≢ 0 → v < length ws
within_table ws v h = go (dec_lt v (length ws))
  where
    go : Dec (v < length ws) → v < length ws
    go (yes b) = b
    go (no m) = absurd (h (get_or-eq_default ws 0 (omega arith)))

-- where a number of a list stands
pub in_place : {x : ℕ} {xs : List ℕ} → In x xs → (j : ℕ) × (j < length xs) × (get_or xs j 0 ≡ x)
in_place (top {xs = xs}) = (0, omega arith, refl)
in_place (pop i) = let (j, h, e) = in_place i in (suc j, omega arith, e)
