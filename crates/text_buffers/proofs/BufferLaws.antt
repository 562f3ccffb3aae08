-- Laws of specs/Buffers.antt: what room does, how one text follows another, and what a writer that is lent the rest
-- of a buffer makes of the whole. Each is an equation of lists; nothing is said of loops.
-- Assumes nothing.
use Prim.Native.Nat.{ℕ, zero, suc, ◌+◌, ◌-◌, ◌≤◌, ◌<◌, min}
use mathlib.Core.List.{List, [], ◌∷◌, ◌++◌, append_assoc, append-nil}
use mathlib.Core.Path.{◌≡◌, refl, ap, sym, ◌∙◌}
use native.Mathlib.Omega.{arith}
use native.Mathlib.Decide.{dec_lt}
use native.Mathlib.Numerals.{add-one}
use native.Mathlib.Nat.{sub-zero, suc-sub-suc}
use lib.ListN.{length, take, drop, set, length-append, length-take, length-drop, drop_of_length-le}
use lib.Seq.{length-take-le, set_out, take_all, take-nil, take-append_seam, drop-append_seam, drop-drop, set_split}
use lib.Seq.{drop-cons, set-append_seam, append_snoc}
use borrow.Rule.Slice.PartMut.{put_mid}
use Rattle.words.specs.Lists.{over}
use Rattle.std.proofs.lemmas.List.{take_min}
use Rattle.words.proofs.ListLaws.{over_length}
use Rattle.text_buffers.specs.Buffers.{fitting, Wrote, Added}

-- ---- over

-- one word more
pub over_snoc : (xs s : List ℕ) (v : ℕ) → length xs < length s → set (over xs s) (length xs) v ≡ over (xs ++ (v ∷ [])) s
unfolding over
over_snoc xs s v h = rw (drop-cons s (length xs) 0, set-append_seam, length-append, add-one, append_snoc)

pub over_is : (xs s : List ℕ) → over xs s ≡ xs ++ drop (length xs) s
unfolding over
over_is xs s = refl

-- a list over the rest is a longer list over the whole
pub over_over : (xs ys s : List ℕ) → xs ++ over ys (drop (length xs) s) ≡ over (xs ++ ys) s
unfolding over
over_over xs ys s = rw (length-append, drop-drop) (sym (append_assoc xs ys _))

-- ---- fitting

take_append : (n : ℕ) (s t : List ℕ) → take n (s ++ t) ≡ take n s ++ take (n - length (take n s)) t
take_append n [] t = rw (take-nil, sub-zero)
take_append zero (b ∷ s) t = refl
take_append (suc n) (b ∷ s) t = rw suc-sub-suc (ap (λ (r : List ℕ). b ∷ r) (take_append n s t))

pub fitting_room : (t o : List ℕ) → length t ≤ length o → fitting t o ≡ t
unfolding fitting
fitting_room t o h = take_all (length o) t h

pub fitting_most : (t o : List ℕ) → length (fitting t o) ≤ length o
unfolding fitting
fitting_most t o = rw length-take (omega arith)

pub fitting_least : (t o : List ℕ) → length (fitting t o) ≤ length t
unfolding fitting
fitting_least t o = rw length-take (omega arith)

-- in an empty buffer
pub fitting_full : (t o : List ℕ) → length o ≡ 0 → fitting t o ≡ []
unfolding fitting
fitting_full t o h = rw h

pub fitting_none : (o : List ℕ) → fitting [] o ≡ []
unfolding fitting
fitting_none o = take-nil (length o)

full : (t o : List ℕ) → length o ≤ length t → length (fitting t o) ≡ length o
unfolding fitting
full t o h = length-take-le (length o) t h

-- a text after a text gets the room that the first one leaves
pub fitting_append : (s t o : List ℕ) → fitting (s ++ t) o ≡ fitting s o ++ fitting t (drop (length (fitting s o)) o)
unfolding fitting
fitting_append s t o = rw (length-drop, take_append)

-- and none, if the first one took it all
pub fitting_past : (s t o : List ℕ) → length o ≤ length s → fitting (s ++ t) o ≡ fitting s o
fitting_past s t o h =
    let m = full s o h in
    let d : drop (length (fitting s o)) o ≡ [] = drop_of_length-le o {i = length (fitting s o)} (omega arith) in
    rw (fitting_append, d, fitting_full t [] refl, append-nil)

-- a word after a text, where there is room for it and where there is none
pub over_fitting_snoc : (t o : List ℕ) (v : ℕ)
    → set (over (fitting t o) o) (length t) v ≡ over (fitting (t ++ (v ∷ [])) o) o
over_fitting_snoc t o v = go (dec_lt (length t) (length o))
  where
    go : Dec (length t < length o) → set (over (fitting t o) o) (length t) v ≡ over (fitting (t ++ (v ∷ [])) o) o
    go (yes h) =
        let f = fitting_room t o (omega arith) in
        let g = fitting_room (t ++ (v ∷ [])) o (rw length-append (omega arith)) in
        rw (f, g) (over_snoc t o v h)
    go (no h) =
        let k : length o ≤ length t = omega arith in
        let l : length (over (fitting t o) o) ≤ length t =
        omega (arith, over_length (fitting t o) o (fitting_most t o)) in
        rw (fitting_past t (v ∷ []) o k) (set_out (over (fitting t o) o) (length t) v l)

-- ---- the front of a buffer

pub wrote_none : (o : List ℕ) → Wrote [] o o 0
unfolding over
wrote_none o = record { count = rw (fitting_none o); text = rw (fitting_none o) }

pub wrote_length : {t o x : List ℕ} {r : ℕ} → Wrote t o x r → length x ≡ length o
wrote_length {t} {o} w = ap length w.text ∙ over_length (fitting t o) o (fitting_most t o)

pub wrote_most : {t o x : List ℕ} {r : ℕ} → Wrote t o x r → r ≤ length o
wrote_most {t} {o} w = omega (arith, w.count, fitting_most t o)

-- with room, the whole text
pub wrote_room : {t o x : List ℕ} {r : ℕ} → Wrote t o x r → length t ≤ length o → (r ≡ length t) × (x ≡ over t o)
wrote_room {t} {o} w h = let f = fitting_room t o h in
    (w.count ∙ ap length f, w.text ∙ ap (λ (s : List ℕ). over s o) f)

-- ---- from a place on

pub added_length : {t o x : List ℕ} {at r : ℕ} → Added t o at x r → length x ≡ length o
added_length {t} {o} {x} {at} a =
    let l = over_length (fitting t (drop at o)) (drop at o) (fitting_most t (drop at o)) in
    ap length a.text ∙ rw (length-append, l, length-take, length-drop) (omega arith)

pub added_most : {t o x : List ℕ} {at r : ℕ} → Added t o at x r → at ≤ length o → r ≤ length o
added_most {t} {o} {x} {at} a h = omega (arith, a.end, fitting_most t (drop at o), length-drop at o)

-- with room, the whole text
pub added_room : {t o x : List ℕ} {at r : ℕ} → Added t o at x r → at + length t ≤ length o
    → (r ≡ at + length t) × (x ≡ take at o ++ over t (drop at o))
added_room {t} {o} {x} {at} a h =
    let f = fitting_room t (drop at o) (rw length-drop (omega arith)) in
    (a.end ∙ ap (λ (s : List ℕ). at + length s) f, a.text ∙ ap (λ (s : List ℕ). take at o ++ over s (drop at o)) f)

-- a byte at its place, and none past the end
pub added_byte : (o : List ℕ) (at v : ℕ) → at < length o → Added (v ∷ []) o at (set o at v) (at + 1)
unfolding over
added_byte o at v h =
    let f = fitting_room (v ∷ []) (drop at o) (rw length-drop (omega arith)) in
    record { end = rw f; text = rw (f, drop-drop, add-one) (set_split o at v h) }

pub added_past : (t o : List ℕ) (at : ℕ) → length o ≤ at → Added t o at o at
unfolding over
added_past t o at h =
    let d : drop at o ≡ [] = drop_of_length-le o h in
    let f = fitting_full t [] refl in
    record { end = rw (d, f) (omega arith); text = rw (d, f, append-nil, take_all at o h) }

-- a text after a text
pub wrote_added : {s t o x y : List ℕ} {at r : ℕ} → Wrote s o x at → Added t x at y r → Wrote (s ++ t) o y r
wrote_added {s} {t} {o} {x} {y} {at} {r} w a =
    let f = fitting s o in
    let z = w.text ∙ over_is f o in
    let q : drop at x ≡ drop (length f) o = rw (w.count, z, drop-append_seam) in
    let p : take at x ≡ f = rw (w.count, z, take-append_seam) in
    record {
      count = rw (fitting_append s t o, length-append) (a.end ∙ rw (q, w.count));
      text = rw (fitting_append s t o) (a.text ∙ rw (p, q) (over_over f (fitting t (drop (length f) o)) o));
    }

-- where a text was added, the buffer before its end and after it
parted : {s o x : List ℕ} {at m : ℕ} → Added s o at x m
    → (take m x ≡ take at o ++ fitting s (drop at o)) × (drop m x ≡ drop (length (fitting s (drop at o))) (drop at o))
parted {s} {o} {x} {at} {m} a = go (dec_lt (length o) at)
  where
    f : List ℕ
    f = fitting s (drop at o)

    whole : x ≡ (take at o ++ f) ++ drop (length f) (drop at o)
    whole = a.text ∙ rw (over_is f (drop at o)) (sym (append_assoc (take at o) f (drop (length f) (drop at o))))

    go : Dec (length o < at) → (take m x ≡ take at o ++ f) × (drop m x ≡ drop (length f) (drop at o))
    go (yes h) =
        let d : drop at o ≡ [] = drop_of_length-le o {i = at} (omega arith) in
        let e : f ≡ [] = rw d (fitting_full s [] refl) in
        let l : m ≡ at = a.end ∙ rw e (omega arith) in
        let w : x ≡ o =
        whole ∙ rw (e, d, append-nil (take at o), append-nil (take at o), take_all at o (omega arith)) in
        (rw (w, l, e, append-nil), rw (w, l, e, d))
    go (no h) =
        let l : m ≡ length (take at o ++ f) = a.end ∙ rw (length-append, length-take) (omega arith) in
        (rw (whole, l, take-append_seam), rw (whole, l, drop-append_seam))

pub added_added : {s t o x y : List ℕ} {at m r : ℕ} → Added s o at x m → Added t x m y r → Added (s ++ t) o at y r
added_added {s} {t} {o} {x} {y} {at} {m} {r} a b =
    let f = fitting s (drop at o) in
    let (p, q) = parted a in
    record {
      end = rw (fitting_append s t (drop at o), length-append) (b.end ∙ rw (q, a.end) (omega arith));
      text = rw (fitting_append s t (drop at o))
          (b.text ∙ rw (p, q) (append_assoc (take at o) f _
          ∙ ap (λ (z : List ℕ). take at o ++ z)
          (over_over f (fitting t (drop (length f) (drop at o))) (drop at o))));
    }

-- ---- the rest of a buffer, lent

pub rest_lent : (x : List ℕ) (at : ℕ) → take (length x - at) (drop at x) ≡ drop at x
rest_lent x at = take_all (length x - at) (drop at x) (rw length-drop (omega arith))

-- a writer that is lent the rest adds its text to the whole
pub added_lent : (t x p : List ℕ) (at r : ℕ) → Wrote t (take (length x - at) (drop at x)) p r
    → Added t x at (put_mid at (length x - at) x p) (at + r)
added_lent t x p at r w =
    let z : drop (length x - at) (drop at x) ≡ [] =
    drop_of_length-le (drop at x) {i = length x - at} (rw length-drop (omega arith)) in
    let q = rest_lent x at in
    record { end = ap (λ (n : ℕ). at + n) w.count ∙ rw q; text = rw (z, append-nil, w.text, q) }

-- and stays within it
pub lent_most : (t x p : List ℕ) (at r : ℕ) → Wrote t (take (length x - at) (drop at x)) p r → at ≤ length x
    → at + r ≤ length x
lent_most t x p at r w h = added_most (added_lent t x p at r w) h

-- as much of a text as there is room for, at the front
pub wrote_front : (t o : List ℕ) (n : ℕ) → n ≡ min (length t) (length o) → Wrote t o (take n t ++ drop n o) n
unfolding over fitting
wrote_front t o n e =
    let m : n ≡ min (length o) (length t) = omega (arith, e) in
    let f : take (length o) t ≡ take n t = rw m (sym (take_min (length o) t)) in
    let l : length (take n t) ≡ n = rw length-take (omega (arith, e)) in
    record { count = rw (f, l); text = rw (f, l) }
