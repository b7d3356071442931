-- The counts of two sides of a text add up.
use mathlib.Core.Path.{◌≡◌}
use mathlib.Core.List.{List}
use Prim.Native.Nat.{ℕ, ◌+◌}
use Rattle.plain.specs.Utf8.{decode}
use Rattle.plain.specs.Place.{Measure.byte, Measure.char, Measure.line, count_of}
use Rattle.text_info.specs.Info.{info_of}
use Rattle.text_info.specs.declared.TextInfo.{TextInfo}
use Rattle.node_text.proofs.Parts.{Parted}

pub record Added (t l r : TextInfo) : Type 0 where
  pub bytes-add : t.bytes ≡ l.bytes + r.bytes
  pub chars-add : t.chars ≡ l.chars + r.chars
  pub surrogates-add : t.utf16_surrogates ≡ l.utf16_surrogates + r.utf16_surrogates
  pub breaks-add : t.line_breaks ≡ l.line_breaks + r.line_breaks

-- THEOREM: where a text is parted and no CR from its LF
pub info-adds : {t l r : List ℕ} → Parted t l r → Added (info_of (decode t)) (info_of (decode l)) (info_of (decode r))
unfolding count_of
info-adds p = record { bytes-add = p.counts byte; chars-add = p.counts char; surrogates-add = p.pairs; breaks-add = p.counts line }
