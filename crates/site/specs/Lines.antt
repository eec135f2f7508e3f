-- The lines of the modified ratio (8), (18), in thousandths.
--   lines    0.3, 0.8; 0.52, 0.144; 0.7: where the second and the third begin, the second's slope and what it adds, the third's slope
use Rattle.site.specs.declared.lines.Lines.{Lines}

abbrev pub lines : Lines
lines = record { first = 300; second = 800; slope = 520; add = 144; last = 700 }
