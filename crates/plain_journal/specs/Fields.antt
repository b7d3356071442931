-- A journal, which is the program's input: fields one behind another, and what each asks for. Numbers are big-endian.
use Rattle.std.specs.Prelude.{not, cond, List, [], ◌∷◌, ℕ, zero, suc, ltb, eqb, length, take, drop}
use Rattle.plain.specs.Outcome.{Outcome, Outcome.value, Outcome.refused, ruled}
use Rattle.plain_calls.specs.Calls.{Call, Call.insert, Call.remove, Call.set_mark}
use Rattle.octets.specs.Big.{four_at}
use Rattle.framing.specs.Field.{is_whole, tag_of, body_of, behind, field_bytes}

-- ── what a field asks for ──

-- Tag 1: a place, and the piece. Tag 2: start and end. Tag 3: the place of a mark. Another tag, or a length that is not the tag's, is 10.
unfoldable pub asked : ℕ → List ℕ → Outcome Call
unfolding ruled four_at
asked tag body =
    cond (eqb tag 1) (ruled ((10, ltb (length body) 4) ∷ []) (insert (four_at body 0) (drop 4 body)))
    (cond (eqb tag 2) (ruled ((10, not (eqb (length body) 8)) ∷ []) (remove (four_at body 0) (four_at body 4)))
    (cond (eqb tag 3) (ruled ((10, not (eqb (length body) 4)) ∷ []) (set_mark (four_at body 0))) (refused 10)))

-- ── the journal ──

-- a field before others: a bad one ends the reading
abbrev pub before : Outcome Call → List (Outcome Call) → List (Outcome Call)
before (value c) fs = value c ∷ fs
before (refused q) fs = refused q ∷ []

-- at most k fields of an input; a cut one is bad
unfoldable pub framed : ℕ → List ℕ → List (Outcome Call)
unfolding is_whole body_of asked field_bytes
framed zero s = []
framed (suc k) s = cond (eqb (length s) 0) [] (cond (is_whole s) (before (asked (tag_of s) (body_of s)) (framed k (behind s))) (refused 10 ∷ []))

-- all of them: each takes bytes, so there are no more fields than bytes
unfoldable pub fields_of : List ℕ → List (Outcome Call)
unfolding framed
fields_of s = framed (length s) s
