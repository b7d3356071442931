-- Memories that differ in the bytes of the marks alone: what else the head says is the same.
use Rattle.std.proofs.Common.{◌≡◌, ℕ, ◌+◌, ◌≤◌, List, length, get_or, take, drop, sym, refl, ap, ◌∙◌, arith, get_or-take}
use Rattle.plain_note.specs.Note.{head_size}
use Rattle.octets.specs.Over.{overlaid}
use Rattle.octets.proofs.Over.{overlaid-length, over-front, over-rest}
use Rattle.octets.specs.Big.{four_at}
use Rattle.octets.proofs.Numbers.{four-part}
use Rattle.pool.proofs.Kids.{kid-same}
use Rattle.note_head.specs.Head.{n_of, edit_of, root_of, height_of, free_of}

-- no byte before the marks has changed, and none behind them
pub record Beside (m later : List ℕ) : Type 0 where
  pub size : length later ≡ length m
  pub front : take 2048 later ≡ take 2048 m
  pub behind : drop head_size later ≡ drop head_size m

pub beside_same : (m : List ℕ) → Beside m m
beside_same m = record { size = refl; front = refl; behind = refl }

pub beside-twice : (m a later : List ℕ) → Beside m a → Beside a later → Beside m later
beside-twice m a later x y = record { size = y.size ∙ x.size; front = y.front ∙ x.front; behind = y.behind ∙ x.behind }

-- bytes laid among the marks
pub beside-laid : (a : ℕ) (x m : List ℕ) → head_size ≤ length m → 2048 ≤ a → a + length x ≤ head_size → Beside m (overlaid a x m)
beside-laid a x m h l k =
    let i : a + length x ≤ length m = omega arith in
    record { size = overlaid-length a x m i; front = over-front a x m i 2048 l; behind = over-rest a x m i head_size k }

module _ (m later : List ℕ) (b : Beside m later) where
  four-front : (l : List ℕ) (j : ℕ) → j + 4 ≤ 2048 → four_at (take 2048 l) j ≡ four_at l j
  four-front l j h = let z : 0 + j ≡ j = omega arith in four-part l 0 2048 j h ∙ ap (four_at l) z

  four-beside : (j : ℕ) → j + 4 ≤ 2048 → four_at later j ≡ four_at m j
  four-beside j h = sym (four-front later j h) ∙ ap (λ (l : List ℕ). four_at l j) b.front ∙ four-front m j h

  pub beside-n : n_of later ≡ n_of m
  unfolding n_of
  beside-n = four-beside 0 (omega arith)

  pub beside-edit : edit_of later ≡ edit_of m
  unfolding edit_of
  beside-edit = four-beside 4 (omega arith)

  pub beside-root : root_of later ≡ root_of m
  unfolding root_of
  beside-root = kid-same later m 8 8 (λ n l. four-beside (8 + n) (omega arith))

  pub beside-height : height_of later ≡ height_of m
  unfolding height_of
  beside-height = sym (get_or-take 2048 later 28 0 (omega arith)) ∙ ap (λ (l : List ℕ). get_or l 28 0) b.front ∙ get_or-take 2048 m 28 0 (omega arith)

  pub beside-free : free_of later ≡ free_of m
  unfolding free_of
  beside-free = four-beside 32 (omega arith)
