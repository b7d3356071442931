-- The counts of texts joined: they add up where the seam parts no CR from its LF.
use mathlib.Core.Path.{◌≡◌, refl, sym, ap, ◌∙◌}
use mathlib.Core.Bool.{true, false, ◌&&◌}
use mathlib.Core.List.{List, [], ◌++◌}
use Prim.Native.Nat.{ℕ, ◌+◌}
use native.Mathlib.Omega.{arith}
use lib.ListN.{length, length-append}
use Rattle.plain.specs.Utf8.{valid_utf8, decode}
use Rattle.plain.specs.Chars.{encode}
use Rattle.plain.specs.Count.{bit, count_if, breaks, cr_last, lf_first}
use Rattle.plain.specs.Place.{is_pair, bytes}
use Rattle.plain.proofs.Count.{count-append, breaks-append}
use Rattle.plain.proofs.Utf8.{valid-sound, valid-append}
use Rattle.plain.proofs.Text.{breaks-encode}
use Rattle.text_info.specs.declared.TextSum.{TextSum}
use Rattle.tree.specs.Tree.{sum_of, plus_sum}

-- of a text the bytes are counted, and its breaks are those of its bytes
pub bytes-valid : (s : List ℕ) → valid_utf8 s ≡ true → bytes (decode s) ≡ length s
bytes-valid s v = ap length (valid-sound s v).1

pub breaks-valid : (s : List ℕ) → valid_utf8 s ≡ true → breaks (decode s) ≡ breaks s
breaks-valid s v = sym (breaks-encode (decode s)) ∙ ap breaks (valid-sound s v).1

-- two sums are one where their four numbers are
abbrev four : ℕ → ℕ → ℕ → ℕ → TextSum
four b c u l = record { bytes = b; chars = c; utf16_surrogates = u; line_breaks = l }

pub sum_is : (s t : TextSum) → s.bytes ≡ t.bytes → s.chars ≡ t.chars → s.utf16_surrogates ≡ t.utf16_surrogates → s.line_breaks ≡ t.line_breaks → s ≡ t
sum_is s t e f g h =
    ap (λ (n : ℕ). four n s.chars s.utf16_surrogates s.line_breaks) e
    ∙ ap (λ (n : ℕ). four t.bytes n s.utf16_surrogates s.line_breaks) f
    ∙ ap (λ (n : ℕ). four t.bytes t.chars n s.line_breaks) g
    ∙ ap (λ (n : ℕ). four t.bytes t.chars t.utf16_surrogates n) h

pub sum-nil : sum_of (decode []) ≡ record { bytes = 0; chars = 0; utf16_surrogates = 0; line_breaks = 0 }
unfolding decode encode count_if breaks
sum-nil = refl

pub valid-nil : valid_utf8 [] ≡ true
unfolding valid_utf8
valid-nil = refl

-- THEOREM: the counts of two texts add up
pub counts-add : (a b : List ℕ) → valid_utf8 a ≡ true → valid_utf8 b ≡ true → (cr_last a && lf_first b) ≡ false → sum_of (decode (a ++ b)) ≡ plus_sum (sum_of (decode a)) (sum_of (decode b))
counts-add a b v w c =
    let j = valid-append a b v w in
    sum_is (sum_of (decode (a ++ b))) (plus_sum (sum_of (decode a)) (sum_of (decode b)))
    (bytes-valid (a ++ b) j.0 ∙ omega (arith, length-append a b, bytes-valid a v, bytes-valid b w))
    (ap length j.1 ∙ length-append (decode a) (decode b))
    (ap (count_if is_pair) j.1 ∙ count-append is_pair (decode a) (decode b))
    (omega (arith, breaks-valid (a ++ b) j.0, breaks-valid a v, breaks-valid b w, breaks-append a b, ap bit c))
