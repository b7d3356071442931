-- What children must be to be moved: what the checks have found before a move begins.
use Rattle.std.specs.Prelude.{◌≡◌, true, false, List, ℕ, ◌<◌, eqb, length}
use Rattle.plain.specs.Utf8.{valid_utf8}
use Rattle.pool.specs.declared.Kid.{Kid}
use Rattle.nodes.specs.Node.{is_leaf, is_list, text_of}
use Rattle.child_info.specs.Kin.{slots_of, slot_in, repeats}

-- a leaf whose bytes are text
pub record LeafText (m : List ℕ) (s : ℕ) : Type 0 where
  pub leaf : is_leaf m s ≡ true
  pub text : valid_utf8 (text_of m s) ≡ true

pub record TwoLeaves (m : List ℕ) (l r : ℕ) : Type 0 where
  pub left : LeafText m l
  pub right : LeafText m r
  pub apart : eqb l r ≡ false

pub record AllLeaves (m : List ℕ) (ks : List Kid) : Type 0 where
  pub each : (i : ℕ) → i < length ks → LeafText m (slot_in ks i)
  pub apart : repeats (slots_of ks) ≡ false

-- two nodes of one kind
pub data Alike (m : List ℕ) (a b : ℕ) : Type 0 where
  leaves : TwoLeaves m a b → Alike m a b
  lists : is_list m a ≡ true → is_list m b ≡ true → eqb a b ≡ false → Alike m a b

-- two children of the list in slot p
pub record Mergeable (m : List ℕ) (p a b : ℕ) : Type 0 where
  pub alike : Alike m a b
  pub first : eqb p a ≡ false
  pub second : eqb p b ≡ false
