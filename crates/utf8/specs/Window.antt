-- UTF-8 by windows of four bytes: what is wrong of a byte shows in it and the three before it. `far`: chars of four bytes are allowed. Nothing here has
-- to be believed: proofs/Windows.antt and proofs/Bmp.antt say that a scan is well-formedness.
use Rattle.std.specs.Prelude.{◌≡◌, Bool, true, false, not, ◌&&◌, ◌||◌, List, [], ◌∷◌, ℕ, ◌-◌, ◌≤◌, ◌<◌, ltb, leb, eqb, get_or, drop}
use Rattle.std.specs.Bool.{beq}

-- do the three bytes ask for a later byte of their char?
unfoldable pub owed : Bool → ℕ → ℕ → ℕ → Bool
owed true x y z = (leb 0xC0 z || leb 0xE0 y) || leb 0xF0 x
owed false x y z = leb 0xC0 z || leb 0xE0 y

unfoldable pub is_later : ℕ → Bool
is_later b = leb 0x80 b && ltb b 0xC0

-- does z begin no char, or is b outside of what it leaves to the second byte?
unfoldable pub out_of : Bool → ℕ → ℕ → Bool
out_of true z b =
    (((((eqb z 0xE0 && ltb b 0xA0) || (eqb z 0xED && leb 0xA0 b)) || (eqb z 0xF0 && ltb b 0x90)) || (eqb z 0xF4 && leb 0x90 b)) || (leb 0xC0 z && ltb z 0xC2)) || leb 0xF5 z
out_of false z b = (((eqb z 0xE0 && ltb b 0xA0) || (eqb z 0xED && leb 0xA0 b)) || (leb 0xC0 z && ltb z 0xC2)) || leb 0xF0 z

-- is b, behind x, y and z, a byte that cannot stand there?
unfoldable pub bad_at : Bool → ℕ → ℕ → ℕ → ℕ → Bool
bad_at far x y z b = not (beq (owed far x y z) (is_later b)) || out_of far z b

-- is a byte of the list wrong, behind x, y and z, or a char at its end unfinished?
unfoldable pub scan : Bool → ℕ → ℕ → ℕ → List ℕ → Bool
scan far x y z [] = owed far x y z
scan far x y z (b ∷ bs) = bad_at far x y z b || scan far y z b bs

-- the window that ends at i, and the scan from i on, in a text
abbrev pub wrong_at : Bool → List ℕ → ℕ → Bool
wrong_at far s i = bad_at far (get_or s (i - 3) 0) (get_or s (i - 2) 0) (get_or s (i - 1) 0) (get_or s i 0)

abbrev pub scan_at : Bool → List ℕ → ℕ → Bool
scan_at far s i = scan far (get_or s (i - 3) 0) (get_or s (i - 2) 0) (get_or s (i - 1) 0) (drop i s)

-- what the windows from a up to, not including, e tell: with the scan from e on, the scan from a on; and every wrong one of them
pub record Parted (far : Bool) (s : List ℕ) (a e : ℕ) (r : Bool) : Type 0 where
  pub scanned : (r || scan_at far s e) ≡ scan_at far s a
  pub each : (k : ℕ) → a ≤ k → k < e → wrong_at far s k ≡ true → r ≡ true
