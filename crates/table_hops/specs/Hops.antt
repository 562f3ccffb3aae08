-- The code's answer to a hop, as the rules have it.
--
--   hop_read h  the hop that h stands for
-- Assumes nothing.
use Rattle.rules.specs.Sound.{Hop, ready, lost, to}
use Rattle.table_hops.specs.declared.Next.{Next}
use Rattle.table_hops.specs.declared.Next.TheVariants.{Ready, Lost, To}

abbrev pub hop_read : Next → Hop
hop_read Ready = ready
hop_read Lost = lost
hop_read (To u) = to u
