-- What judging the entries of a list comes to.
--
--   Judges f n r   r is what the places 0 to n - 1 come to, where f gives each place its refusal, or 0: the first bad
--                  one with its refusal, where there is one
-- Assumes nothing.
use Rattle.std.specs.Prelude.{ℕ, ◌≡◌, ◌<◌, Result, MatchResult}
use Rattle.rules.specs.Refusals.{first_bad}
use Rattle.rules.specs.Refusals.{refusal_number}
use Rattle.step_async.specs.declared.BadEntry.{BadEntry}

pub record IsBad (f : ℕ → ℕ) (n : ℕ) (e : BadEntry) : Type 0 where
  pub within : e.place < n
  pub place : e.place ≡ first_bad f n 0
  pub refusal : refusal_number e.refusal ≡ f e.place

abbrev pub Judges : (ℕ → ℕ) → ℕ → Result Unit BadEntry → Type 0
Judges f n r = MatchResult r (λ v. n ≡ first_bad f n 0) (λ e. IsBad f n e)
