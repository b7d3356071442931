-- Each writer of the head beside each field, by name: what it wrote is read, and the other fields read as before. These are the pairs of the table of fields.
use mathlib.Core.Path.{◌≡◌, refl}
use mathlib.Core.List.{List}
use Prim.Native.Nat.{ℕ, ◌+◌, ◌≤◌, ◌<◌}
use native.Mathlib.Omega.{arith}
use lib.ListN.{length}
use Rattle.plain_note.specs.Note.{head_size}
use Rattle.octets.proofs.Numbers.{four-written}
use Rattle.pool.specs.declared.Kid.{Kid}
use Rattle.note_head.specs.Head.{n_of, edit_of, root_of, height_of, free_of}
use Rattle.note_head.specs.Writes.{number_put, root_put, height_put}
use Rattle.note_head.proofs.Table.{n-tells, edit-tells, root-tells, height-tells, free-tells}
use Rattle.note_head.proofs.Written.{Around, number-around, number_same, root-same, height-same}

module _ (v : ℕ) (m : List ℕ) (h : head_size ≤ length m) where
  -- how many slots
  pub slots_set : v < 4294967296 → n_of (number_put m 0 v) ≡ v
  unfolding n_of
  slots_set k = four-written 0 v m (omega arith) k

  pub slots-around : Around m (number_put m 0 v)
  slots-around = number-around m h 0 v (omega arith)

  pub slots-edit : edit_of (number_put m 0 v) ≡ edit_of m
  slots-edit = number_same m h edit-tells 0 v refl

  pub slots-root : root_of (number_put m 0 v) ≡ root_of m
  slots-root = number_same m h root-tells 0 v refl

  pub slots-height : height_of (number_put m 0 v) ≡ height_of m
  slots-height = number_same m h height-tells 0 v refl

  pub slots-free : free_of (number_put m 0 v) ≡ free_of m
  slots-free = number_same m h free-tells 0 v refl

  -- the edit number
  pub edit-around : Around m (number_put m 4 v)
  edit-around = number-around m h 4 v (omega arith)

  pub edit-n : n_of (number_put m 4 v) ≡ n_of m
  edit-n = number_same m h n-tells 4 v refl

  pub edit-root : root_of (number_put m 4 v) ≡ root_of m
  edit-root = number_same m h root-tells 4 v refl

  pub edit-height : height_of (number_put m 4 v) ≡ height_of m
  edit-height = number_same m h height-tells 4 v refl

  pub edit-free : free_of (number_put m 4 v) ≡ free_of m
  edit-free = number_same m h free-tells 4 v refl

  -- the first free slot
  pub free-around : Around m (number_put m 32 v)
  free-around = number-around m h 32 v (omega arith)

  pub free-n : n_of (number_put m 32 v) ≡ n_of m
  free-n = number_same m h n-tells 32 v refl

  pub free-edit : edit_of (number_put m 32 v) ≡ edit_of m
  free-edit = number_same m h edit-tells 32 v refl

  pub free-root : root_of (number_put m 32 v) ≡ root_of m
  free-root = number_same m h root-tells 32 v refl

  pub free-height : height_of (number_put m 32 v) ≡ height_of m
  free-height = number_same m h height-tells 32 v refl

  -- the height
  pub height-n : n_of (height_put m v) ≡ n_of m
  height-n = height-same m h n-tells v refl

  pub height-edit : edit_of (height_put m v) ≡ edit_of m
  height-edit = height-same m h edit-tells v refl

  pub height-root : root_of (height_put m v) ≡ root_of m
  height-root = height-same m h root-tells v refl

  pub height-free : free_of (height_put m v) ≡ free_of m
  height-free = height-same m h free-tells v refl

-- the root
module _ (k : Kid) (m : List ℕ) (h : head_size ≤ length m) where
  pub root-n : n_of (root_put m k) ≡ n_of m
  root-n = root-same m h n-tells k refl

  pub root-edit : edit_of (root_put m k) ≡ edit_of m
  root-edit = root-same m h edit-tells k refl

  pub root-height : height_of (root_put m k) ≡ height_of m
  root-height = root-same m h height-tells k refl

  pub root-free : free_of (root_put m k) ≡ free_of m
  root-free = root-same m h free-tells k refl
