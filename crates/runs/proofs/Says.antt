-- What an accepted reading, and an accepted preview, have passed, and what they come to.
use mathlib.Core.Path.{◌≡◌, refl, sym, ◌∙◌}
use mathlib.Core.Bool.{true}
use mathlib.Core.List.{List, [], ◌∷◌, ◌++◌}
use Prim.Native.Nat.{ℕ, ◌≤◌}
use lib.ListN.{length, drop}
use borrow.Author.Tests.{le-ltb, ltb-false, not-false}
use Rattle.plain.specs.Chars.{encode}
use Rattle.plain.specs.Utf8.{valid_utf8, decode}
use Rattle.plain.specs.Edit.{put_in}
use Rattle.plain.specs.Outcome.{Outcome, Outcome.value, Outcome.refused, Rule, ruled, past}
use Rattle.plain.proofs.Outcome.{clash, passed, one-passed, more-passed, more-refused}
use Rattle.plain_note.specs.Note.{Note, insert_rules, piece_most, read_from, previewed}

-- the place exists, and the value is the text from there on
pub read-says : (N : Note) (p : ℕ) (t : List ℕ) → read_from N p ≡ value t → (p ≤ length N.text) × (t ≡ encode (drop p N.text))
unfolding read_from
read-says N p t e =
    let w = passed ((3, past p (length N.text)) ∷ []) (encode (drop p N.text)) t e in
    (ltb-false (length N.text) p w.0.0, w.1)

module _ (N : Note) (p : ℕ) (piece : List ℕ) where
  abbrev text : List ℕ
  text = put_in p (decode piece) N.text

  abbrev beyond : ℕ → List Rule
  beyond q = (3, past q (length text)) ∷ []

  -- the places exist, the piece is a text, and the value is the joined text from q on
  pub record Previews (q : ℕ) (t : List ℕ) : Type 0 where
    pub here : p ≤ length N.text
    pub valid : valid_utf8 piece ≡ true
    pub there : q ≤ length (put_in p (decode piece) N.text)
    pub is : t ≡ encode (drop q (put_in p (decode piece) N.text))

  pub preview-says : (q : ℕ) (t : List ℕ) → previewed N p piece q ≡ value t → Previews q t
  unfolding previewed
  preview-says q t e =
      let w = passed (insert_rules piece_most N p piece ++ beyond q) (encode (drop q text)) t e in
      record {
        here = ltb-false (length N.text) p w.0.0;
        valid = not-false (valid_utf8 piece) w.0.1.1.0;
        there = ltb-false (length text) q w.0.1.1.1.1.0;
        is = w.1;
      }

  -- a preview of the same insertion, from another place of the joined text on
  pub preview-also : (q : ℕ) (t : List ℕ) → previewed N p piece q ≡ value t → (at : ℕ) → at ≤ length (put_in p (decode piece) N.text)
      → previewed N p piece at ≡ value (encode (drop at (put_in p (decode piece) N.text)))
  unfolding previewed
  preview-also q t e at h = go (ruled (insert_rules piece_most N p piece) (tt {0})) refl
    where
      go : (o : Outcome (Unit {0})) → ruled (insert_rules piece_most N p piece) (tt {0}) ≡ o → previewed N p piece at ≡ value (encode (drop at text))
      go (value a) f =
          more-passed (insert_rules piece_most N p piece) (beyond at) (tt {0}) a (encode (drop at text)) f ∙ one-passed 3 (past at (length text)) (encode (drop at text)) (le-ltb (length text) at h)
      go (refused n) f = clash n t (sym (more-refused (insert_rules piece_most N p piece) (beyond q) (tt {0}) (encode (drop q text)) n f) ∙ e)
