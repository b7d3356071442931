-- Text of the Basic Multilingual Plane alone: no char above U+FFFF, so none of four bytes (Unicode Standard, table 3-6).
use Rattle.std.specs.Prelude.{Bool, ◌&&◌, cond, List, [], ◌∷◌, ℕ, ltb}
use Rattle.plain.specs.Utf8.{valid_utf8}

-- the highest of some bytes; 0 where there is none
unfoldable pub highest : List ℕ → ℕ
highest [] = 0
highest (b ∷ s) = cond (ltb b (highest s)) (highest s) b

-- well formed, with no first byte of a char of four bytes
unfoldable pub valid_bmp : List ℕ → Bool
valid_bmp s = valid_utf8 s && ltb (highest s) 0xF0
