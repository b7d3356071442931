-- What a part that was handed out is of the whole, whatever the tree's shape: a front part of what follows a place.
use Rattle.std.specs.Prelude.{◌≡◌, List, ℕ, ◌+◌, ◌≤◌, ◌<◌, length, take, drop}
use Rattle.plain.specs.Chars.{encode}

-- whole chars of a text from a place on, at least one unless the place is its end
pub record FrontChars (cs : List ℕ) (at : ℕ) (part : List ℕ) : Type 0 where
  pub count : ℕ
  pub is : part ≡ encode (take count (drop at cs))
  pub some : at < length cs → 1 ≤ count
  pub room : at + count ≤ length cs

-- bytes from an index on, at least one unless the index is their end
pub record FrontBytes (bs : List ℕ) (at : ℕ) (part : List ℕ) : Type 0 where
  pub is : part ≡ take (length part) (drop at bs)
  pub some : at < length bs → 1 ≤ length part
  pub room : at + length part ≤ length bs
