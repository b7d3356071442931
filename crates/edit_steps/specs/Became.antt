-- What an edit makes of a part of the tree. The memory is the part that the note has (its need, for n slots); children are those of height h.
use Rattle.std.specs.Prelude.{◌≡◌, true, List, ℕ, ◌+◌, ◌≤◌, length, take, drop}
use Rattle.plain_note.specs.Note.{need, head_size}
use Rattle.pool.specs.declared.Kid.{Kid}
use Rattle.pool.specs.Slot.{slot_of}
use Rattle.tree.specs.Tree.{join_over, sum_over, uses}
use Rattle.tree.specs.Kids.{below}
use Rattle.tree.proofs.Size.{sum_below}
use Rattle.note_head.specs.Head.{n_of, free_of}
use Rattle.memory.specs.Formed.{frees, chained}

-- the slots that children use, and those that are free in a memory of n slots
abbrev pub uses_all : List ℕ → ℕ → List Kid → ℕ → ℕ
uses_all m h ks x = sum_over (λ k. uses m h k.slot x) ks

abbrev pub bytes_all : List ℕ → ℕ → List Kid → List ℕ
bytes_all m h ks = join_over (below m h) ks

abbrev pub free : List ℕ → ℕ → ℕ → ℕ
free m n x = frees m n n (free_of m) x

-- how many are free
abbrev pub spare : List ℕ → ℕ → ℕ
spare m n = sum_below n (free m n)

-- a memory of n slots, of which the free ones are a chain
pub record Slotted (m : List ℕ) (n : ℕ) : Type 0 where
  pub long : length m ≡ need n
  pub stored : n_of m ≡ n
  pub chain : chained m n n (free_of m) ≡ true
  pub once : (x : ℕ) → free m n x ≤ 1

-- What used the slots u became the children outs, with the bytes t: free slots were taken, or slots given back, no other slot changed, nor any
-- byte of the memory's head but the first free slot. At most d free slots were spent.
pub record Became (m later : List ℕ) (n d : ℕ) (u : ℕ → ℕ) (h : ℕ) (outs : List Kid) (t : List ℕ) : Type 0 where
  pub slotted : Slotted later n
  pub conserve : (x : ℕ) → uses_all later h outs x + free later n x ≡ u x + free m n x
  pub reads : bytes_all later h outs ≡ t
  pub only : (x : ℕ) → u x + free m n x ≡ 0 → slot_of later x ≡ slot_of m x
  pub front : take 32 later ≡ take 32 m
  pub rest : drop 36 (take head_size later) ≡ drop 36 (take head_size m)
  pub spent : spare m n ≤ spare later n + d
