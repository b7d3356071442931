-- A sequence of calls, computed: a b, a mark before b, x there, y behind b, b gone, and a b typed again where it stood. That b is another char, and
-- no follower: the mark stands before y, which came in behind the first b.
use mathlib.Core.Path.{◌≡◌, refl}
use mathlib.Core.Bool.{Bool, true, false}
use mathlib.Core.List.{List, [], ◌∷◌, map}
use Prim.Native.Nat.{ℕ}
use Rattle.plain.specs.Chars.{encode}
use Rattle.plain.specs.Utf8.{valid_utf8, decode}
use Rattle.plain.specs.Count.{breaks}
use Rattle.plain_note.specs.Note.{Note, Mark.free, Mark.at, opened}
use Rattle.plain_calls.specs.Marks.{mark_of, moved_to}
use Rattle.plain_calls.specs.Calls.{Look.place, Call, Call.insert, Call.remove, Call.set_mark, Call.drop_mark, Call.look, called, after_all}
use Rattle.plain_history.specs.History.{Behind, Behind.none, Behind.followers, Told, begun, tell, told_all, stands}

abbrev story : List Call
story =
    insert 0 (0x61 ∷ 0x62 ∷ [])
    ∷ set_mark 1
    ∷ insert 1 (0x78 ∷ [])
    ∷ insert 3 (0x79 ∷ [])
    ∷ insert 9 (0x7A ∷ [])  -- past the end: refused
    ∷ remove 2 3
    ∷ set_mark 0
    ∷ drop_mark 1
    ∷ insert 2 (0x62 ∷ [])
    ∷ look (place 0)
    ∷ []

abbrev N : Note
N = after_all (opened 17) story

abbrev t : Told
t = told_all 0 (begun 0 (opened 17)) (opened 17) story

-- which of these follow
abbrev asked : Behind → List ℕ → List Bool
asked none xs = []
asked (followers f) xs = map f xs

-- the numbers: a is 0, the first b is 1, x is 2, y is 3, and the second b is 4
pub story-told :
    (N.text ≡ 0x61 ∷ 0x78 ∷ 0x62 ∷ 0x79 ∷ []) × (t.order ≡ 0 ∷ 2 ∷ 4 ∷ 3 ∷ [])
    × (asked t.behind (0 ∷ 1 ∷ 2 ∷ 3 ∷ 4 ∷ []) ≡ false ∷ true ∷ false ∷ true ∷ false ∷ [])
unfolding called tell begun encode valid_utf8 decode breaks
story-told = (refl, refl, refl)

pub story-stands : (stands t.behind t.order ≡ at 3) × (mark_of N 0 ≡ at 3) × (mark_of N 1 ≡ free)
unfolding called tell begun stands moved_to encode valid_utf8 decode breaks
story-stands = (refl, refl, refl)
