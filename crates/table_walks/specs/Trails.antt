-- The code's answer to following owners, as the rules have it.
--
--   found_read r  what r stands for
-- Assumes nothing.
use Rattle.rules.specs.Steps.{Found, astray, back, free}
use Rattle.table_walks.specs.declared.Trail.{Trail}
use Rattle.table_walks.specs.declared.Trail.TheVariants.{Astray, Back, Free}

abbrev pub found_read : Trail → Found
found_read Astray = astray
found_read (Back k) = back k
found_read (Free k) = free k
