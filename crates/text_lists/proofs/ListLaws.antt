-- Laws of specs/Lists.antt, and the state of a loop over the list: how far it has come, what it has seen, and that
-- what is left still gives the answer. One law to begin, one for each way on, one for the end.
-- Assumes nothing.
use Prim.Native.Nat.{ℕ, zero, suc, ◌+◌, ◌*◌, ◌≤◌, ◌<◌}
use mathlib.Core.List.{List, [], ◌∷◌, ◌++◌, append-nil, append_assoc}
use mathlib.Core.Bool.{Bool, true, false, cond}
use lib.Dec.{ltb}
use mathlib.Core.Path.{◌≡◌, refl, ap, sym, ◌∙◌}
use native.Mathlib.Omega.{arith}
use borrow.Author.Tests.{lt-ltb, le-ltb}
use lib.ListN.{length, drop, set, length-append, drop_of_length-le}
use Rattle.words.specs.Lists.{over}
use Rattle.text_buffers.specs.Buffers.{fitting}
use Rattle.words.proofs.ListLaws.{over_none, over_length}
use Rattle.text_buffers.proofs.BufferLaws.{over_fitting_snoc, fitting_none, fitting_most}
use Rattle.text_records.specs.Records.{number_at}
use Rattle.std.specs.Prelude.{Result, Ok, Err}
use Rattle.text_fields.specs.declared.BadByte.{BadByte}
use Rattle.text_records.proofs.RecordLaws.{number_at_next}
use Rattle.text_lists.specs.Lists.{with_entry, values_from, past_entry, listed_from, list_entries, list_of, Listing}

-- after n entries, the next at a, with `out` in the lent words that held o
pub record At (s o out : List ℕ) (n a : ℕ) : Type 0 where
  pub fuel : ℕ
  pub enough : length s < fuel + a
  pub seen : List ℕ
  pub count : n ≡ length seen
  pub text : out ≡ over (fitting seen o) o
  pub listed : listed_from fuel n s a ≡ list_of s
  pub values : seen ++ values_from fuel s a ≡ list_entries s
  pub within : a ≤ length s + 1
  pub half : 2 * n < a

pub at_start : (s o : List ℕ) → At s o o 0 1
unfolding list_entries list_of
at_start s o = record {
  fuel = length s;
  enough = omega arith;
  seen = [];
  count = refl;
  text = sym (rw fitting_none (over_none o));
  listed = refl;
  values = refl;
  within = omega arith;
  half = omega arith;
}

-- the two definitions, where an entry stands, and where none does
module _ (s : List ℕ) (f n a : ℕ) where
  listed_from_end : length s < a → listed_from f n s a ≡ Ok n
  unfolding listed_from
  listed_from_end h = go f
    where
      go : (f : ℕ) → listed_from f n s a ≡ Ok n
      go zero = refl
      go (suc f) = rw (lt-ltb (length s) a h)

  values_from_end : length s < a → values_from f s a ≡ []
  unfolding values_from
  values_from_end h = go f
    where
      go : (f : ℕ) → values_from f s a ≡ []
      go zero = refl
      go (suc f) = rw (lt-ltb (length s) a h)

  module _ (h : a ≤ length s) where
    listed_from_bad : (k : BadByte) → number_at s a ≡ Err k → listed_from (suc f) n s a ≡ Err k
    unfolding listed_from past_entry
    listed_from_bad k q = rw (le-ltb (length s) a h, q)

    values_from_bad : (k : BadByte) → number_at s a ≡ Err k → values_from (suc f) s a ≡ []
    unfolding values_from with_entry
    values_from_bad k q = rw (le-ltb (length s) a h, q)

    listed_from_is : (v m : ℕ) → number_at s a ≡ Ok (v, m) → listed_from (suc f) n s a ≡ listed_from f (n + 1) s m
    unfolding listed_from past_entry
    listed_from_is v m q = rw (le-ltb (length s) a h, q)

    values_from_is : (v m : ℕ) → number_at s a ≡ Ok (v, m) → values_from (suc f) s a ≡ v ∷ values_from f s m
    unfolding values_from with_entry
    values_from_is v m q = rw (le-ltb (length s) a h, q)

-- what is in the lent words, if nothing more is kept
all_seen : {s o out : List ℕ} {n a : ℕ} (p : At s o out n a) → values_from p.fuel s a ≡ []
    → out ≡ over (fitting (list_entries s) o) o
all_seen {s} {o} p e =
    p.text ∙ ap (λ (t : List ℕ). over (fitting t o) o)
    (sym (append-nil p.seen) ∙ ap (λ (t : List ℕ). p.seen ++ t) (sym e) ∙ p.values)

-- the state, with its fuel taken apart
module _ (s o out : List ℕ) (n a : ℕ) (h : a ≤ length s) where
  more : (f : ℕ) → length s < f + a → (g : ℕ) × (f ≡ suc g)
  more zero l = absurd (omega arith)
  more (suc g) l = (g, refl)

  pub at_bad : (k : BadByte) → At s o out n a → number_at s a ≡ Err k → Listing s o out (Err k)
  at_bad k p q =
      let m = more p.fuel p.enough in record {
        answer = sym (listed_from_bad s m.0 n a h k q) ∙ (rw m.1 at p.listed);
        words = all_seen p (rw m.1 (values_from_bad s m.0 n a h k q));
      }

  pub at_is : (v m : ℕ) → At s o out n a → number_at s a ≡ Ok (v, m) → At s o (set out n v) (n + 1) m
  at_is v j p q =
      let m = more p.fuel p.enough in
      let l = rw m.1 at p.listed in
      let w = rw m.1 at p.values in
      let next = number_at_next s a v j q in
      let c = p.count in
      record {
        fuel = m.0;
        enough = omega (arith, p.enough, m.1);
        seen = p.seen ++ (v ∷ []);
        count = rw length-append (omega arith);
        text = rw (p.text, c) (over_fitting_snoc p.seen o v);
        listed = sym (listed_from_is s m.0 n a h v j q) ∙ l;
        values = append_assoc p.seen (v ∷ []) (values_from m.0 s j)
            ∙ ap (λ (t : List ℕ). p.seen ++ t) (sym (values_from_is s m.0 n a h v j q)) ∙ w;
        within = next.within;
        half = omega (arith, p.half);
      }

pub at_end : (s o out : List ℕ) (n a : ℕ) → length s < a → At s o out n a → Listing s o out (Ok n)
at_end s o out n a h p = record {
  answer = sym (listed_from_end s p.fuel n a h) ∙ p.listed;
  words = all_seen p (values_from_end s p.fuel n a h);
}

pub at_size : (s o out : List ℕ) (n a : ℕ) → At s o out n a → length out ≡ length o
at_size s o out n a p = ap length p.text ∙ over_length (fitting p.seen o) o (fitting_most p.seen o)

-- ---- a rest that is not there

pub listing_none : (o : List ℕ) → Listing [] o o (Ok 0)
unfolding list_of listed_from list_entries values_from
listing_none o = record { answer = refl; words = sym (rw fitting_none (over_none o)) }

pub listing_past : (s o : List ℕ) (at : ℕ) → length s ≤ at → Listing (drop at s) o o (Ok 0)
listing_past s o at h = rw (drop_of_length-le s h) (listing_none o)

-- ---- how many entries there are, and where a bad one stands

module _ (s : List ℕ) where
  -- from a on: an entry has at least a digit and a tab, or the line's end
  most_step : (f a : ℕ) → ((i : ℕ) → i ≤ length s + 1 → 2 * length (values_from f s i) + i ≤ length s + 1)
      → a ≤ length s + 1 → (r : Result (ℕ × ℕ) BadByte) → number_at s a ≡ r → (b : Bool)
      → 2 * length (cond b [] (with_entry (values_from f s) r)) + a ≤ length s + 1
  unfolding with_entry
  most_step f a ih h r q true = omega arith
  most_step f a ih h (Err c) q false = omega arith
  most_step f a ih h (Ok (v, i)) q false =
      let p = number_at_next s a v i q in
      omega (arith, ih i p.within, p.past)

  most_from : (f a : ℕ) → a ≤ length s + 1 → 2 * length (values_from f s a) + a ≤ length s + 1
  unfolding values_from
  most_from zero a h = omega arith
  most_from (suc f) a h = most_step f a (λ i l. most_from f i l) h (number_at s a) refl (ltb (length s) a)

  -- two bytes an entry
  pub list_entries_most : 2 * length (list_entries s) ≤ length s
  unfolding list_entries
  list_entries_most = omega (arith, most_from (length s) 1 (omega arith))

  module _ (m : ℕ) where
    count_step : (f n : ℕ) → ((k i : ℕ) → listed_from f k s i ≡ Ok m → m ≡ k + length (values_from f s i))
        → (r : Result (ℕ × ℕ) BadByte) (b : Bool) → cond b (Ok n) (past_entry (listed_from f (n + 1) s) r) ≡ Ok m
        → m ≡ n + length (cond b [] (with_entry (values_from f s) r))
    unfolding past_entry with_entry
    count_step f n ih r true q = let z : n ≡ m = cc in omega arith
    count_step f n ih (Err c) false q = absurd (cc)
    count_step f n ih (Ok (v, i)) false q = omega (arith, ih (n + 1) i q)

    count_from : (f n a : ℕ) → listed_from f n s a ≡ Ok m → m ≡ n + length (values_from f s a)
    unfolding listed_from values_from
    count_from zero n a q = let z : n ≡ m = cc in omega arith
    count_from (suc f) n a q = count_step f n (λ k i p. count_from f k i p) (number_at s a) (ltb (length s) a) q

    -- a list that is well formed has as many entries as it says
    pub list_of_count : list_of s ≡ Ok m → m ≡ length (list_entries s)
    unfolding list_of list_entries
    list_of_count q = omega (arith, count_from (length s) 0 1 q)
