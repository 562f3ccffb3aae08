-- The parts of a line.
--
--   is_colon b, is_blank b, is_star b  the byte b is a colon, a blank, a star
--   name_in l                          the name in the line l: what stands before its first colon, if it has one
--   without_blank r                    the text r without the blank at its front; empty, where it has none there
--   command_in l                       the command in the line l: what stands after its first colon and a blank, or
--                                      the whole line, if it has no colon
-- Assumes nothing.
use Rattle.std.specs.Prelude.{ℕ, ◌+◌, Bool, List, [], Option, ◌==◌, take, drop, slice_index, position, if◌then◌else◌}
use Rattle.std.specs.Option.{option_map, option_map_or}

abbrev pub is_colon : ℕ → Bool
is_colon b = b == 58

abbrev pub is_blank : ℕ → Bool
is_blank b = b == 32

abbrev pub is_star : ℕ → Bool
is_star b = b == 42

abbrev pub name_in : List ℕ → Option (List ℕ)
name_in l = option_map (λ k. take k l) (position is_colon l)

abbrev pub without_blank : List ℕ → List ℕ
without_blank r = if is_blank (slice_index r 0) then drop 1 r else []

abbrev pub command_in : List ℕ → List ℕ
command_in l = option_map_or (λ k. without_blank (drop (k + 1) l)) (position is_colon l) l
