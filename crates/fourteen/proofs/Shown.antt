-- What our definitions give is what document 01 says, in every row of its fourteen. By computation.
use mathlib.Core.Path.{◌≡◌, refl}
use mathlib.Core.List.{map}
use Rattle.plain.specs.Chars.{encode}
use Rattle.plain.specs.Utf8.{valid_utf8, decode}
use Rattle.plain.specs.Count.{breaks, line_at, line_start}
use Rattle.plain.specs.Place.{total, unit_width, byte_width, place_of}
use Rattle.plain_calls.specs.Marks.{moved_to}
use Rattle.plain_calls.specs.Calls.{called}
use Rattle.crlf.specs.Break.{at_index, nearest_break, good_split}
use Rattle.node_text.specs.Texts.{seam_fixed}
use Rattle.node_children.specs.Kids.{list_of}
use Rattle.node_children.specs.Calls.{distributed}
use Rattle.fourteen.specs.Table.{T, X, table}

pub shown : map (λ r. r.said) table ≡ map (λ r. r.meant) table
unfolding table T X called moved_to encode valid_utf8 decode breaks line_at line_start total unit_width byte_width place_of at_index nearest_break good_split seam_fixed list_of distributed
shown = refl
