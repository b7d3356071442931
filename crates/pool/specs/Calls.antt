-- What the calls on slots come to: document 01's refusals, the answers, and the memory afterwards.
use Rattle.std.specs.Prelude.{◌≡◌, Bool, ◌&&◌, ◌||◌, cond, List, [], ◌∷◌, ℕ, ◌+◌, eqb, length, get_or, Ok, Err}
use Rattle.plain.specs.Outcome.{Outcome, Outcome.value, Outcome.refused, Rule, ruled, past, kept, mapped}
use Rattle.answer.specs.Answers.{refusal_number, Answer, outcome}
use Rattle.text_info.specs.declared.TextInfo.{TextInfo}
use Rattle.pool.specs.declared.Kid.{Kid}
use Rattle.pool.specs.declared.Head.{Head}
use Rattle.pool.specs.declared.Head.TheVariants as Head·case
use Rattle.pool.specs.Slot.{slot_start, kind_of, len_of, next_of, region_of, entries, no_kid, head_put, kid_put}

-- 2: the slot does not lie wholly in the lent memory
abbrev pub outside : List ℕ → ℕ → Bool
outside m s = past (slot_start s + 640) (length m)

abbrev pub no_slot : List ℕ → ℕ → Rule
no_slot m s = (2, outside m s)

-- 3: a child list has the entries 0 to 15
abbrev pub no_entry : ℕ → Rule
no_entry i = (3, past i 15)

-- ── reading ──

-- what a slot holds: free, with the next free slot; a leaf of a length; a list of a length
pub data Held : Type 0 where
  free : ℕ → Held
  leaf : ℕ → Held
  list : ℕ → Held

abbrev pub held : Answer Head → Outcome Held
held (Ok (Head·case.Free n)) = value (free n)
held (Ok (Head·case.Leaf n)) = value (leaf n)
held (Ok (Head·case.List n)) = value (list n)
held (Err r) = refused (refusal_number r)

-- of a kind, a length and a next free slot
abbrev pub held_by : ℕ → ℕ → ℕ → Held
held_by kind len next = cond (eqb kind 0) (free next) (cond (eqb kind 1) (leaf len) (list len))

-- no head of a well-formed memory: another kind, or a length above its most
abbrev pub wrong_head : ℕ → ℕ → Bool
wrong_head kind len = past kind 2 || ((eqb kind 1 && past len 512) || (eqb kind 2 && past len 16))

unfoldable pub head_of : List ℕ → ℕ → Outcome Held
head_of m s = ruled ((2, outside m s || wrong_head (kind_of m s) (len_of m s)) ∷ []) (held_by (kind_of m s) (len_of m s) (next_of m s))

unfoldable pub kid_of : List ℕ → ℕ → ℕ → Outcome Kid
kid_of m s i = ruled (no_slot m s ∷ no_entry i ∷ []) (get_or (entries (region_of m s)) i no_kid)

-- of its child the slot, and the counts
abbrev pub child_of : List ℕ → ℕ → ℕ → Outcome ℕ
child_of m s i = mapped (λ k. k.slot) (kid_of m s i)

abbrev pub info_of : List ℕ → ℕ → ℕ → Outcome TextInfo
info_of m s i = mapped (λ k. k.info) (kid_of m s i)

unfoldable pub region_start : List ℕ → ℕ → Outcome ℕ
region_start m s = ruled (no_slot m s ∷ []) (slot_start s + 128)

-- ── writing: the memory afterwards, where the call is accepted ──

-- a head whose length is at most `most`
unfoldable pub head_set : List ℕ → ℕ → ℕ → ℕ → ℕ → ℕ → Outcome (List ℕ)
head_set m s kind len most next = ruled (no_slot m s ∷ (11, past len most) ∷ []) (head_put m s kind len next)

-- a free slot's length is 0, and so is the next free slot of the other two
abbrev pub free_set : List ℕ → ℕ → ℕ → Outcome (List ℕ)
free_set m s next = head_set m s 0 0 0 next

abbrev pub leaf_set : List ℕ → ℕ → ℕ → Outcome (List ℕ)
leaf_set m s len = head_set m s 1 len 512 0

abbrev pub list_set : List ℕ → ℕ → ℕ → Outcome (List ℕ)
list_set m s len = head_set m s 2 len 16 0

unfoldable pub kid_set : List ℕ → ℕ → ℕ → Kid → Outcome (List ℕ)
kid_set m s i k = ruled (no_slot m s ∷ no_entry i ∷ []) (kid_put m s i k)

-- the child keeps its slot, and gets other counts
abbrev pub info_set : List ℕ → ℕ → ℕ → TextInfo → Outcome (List ℕ)
info_set m s i t = kid_set m s i (record { slot = (get_or (entries (region_of m s)) i no_kid).slot; info = t })

-- A writing call: its verdict, and every byte afterwards. A refused one changes none.
pub record Wrote (o : Outcome (List ℕ)) (before : List ℕ) (r : Answer (Unit {0})) (after : List ℕ) : Type 0 where
  pub answered : outcome r ≡ mapped (λ t. tt) o
  pub memory : after ≡ kept before o
