-- The highest byte of a part of a text, as far as a loop over parts needs it. Nothing here has to be believed: `survey::of_text` promises the highest byte
-- itself.
use Rattle.std.specs.Prelude.{ℕ, ◌≤◌, ◌<◌, List, get_or}
use Rattle.utf8.specs.Bmp.{highest}

-- no byte from a up to, not including, e is above h, which is not above all of the text
pub record Tops (s : List ℕ) (a e h : ℕ) : Type 0 where
  pub over : (k : ℕ) → a ≤ k → k < e → get_or s k 0 ≤ h
  pub under : h ≤ highest s

-- r is the higher of two
pub record Higher (a b r : ℕ) : Type 0 where
  pub first : a ≤ r
  pub second : b ≤ r
  pub no_more : (h : ℕ) → a ≤ h → b ≤ h → r ≤ h
