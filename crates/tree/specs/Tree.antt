-- The tree that lies in the lent memory, as functions of the memory m, a height h and a slot s, by recursion on the height: the bytes below
-- a node, how often it uses a slot, and whether it is sound. All leaves lie at height 0, so all are at one depth.
use Rattle.std.specs.Prelude.{Bool, true, not, ◌&&◌, List, [], ◌∷◌, ◌++◌, map, ℕ, zero, suc, ◌+◌, eqb, leb, length}
use Rattle.plain.specs.Utf8.{valid_utf8, decode}
use Rattle.plain.specs.Count.{bit, count_if, breaks, cr_last, lf_first}
use Rattle.plain.specs.Place.{is_pair, bytes}
use Rattle.text_info.specs.declared.TextInfo.{TextInfo}
use Rattle.text_info.specs.declared.TextSum.{TextSum}
use Rattle.pool.specs.declared.Kid.{Kid}
use Rattle.pool.specs.Slot.{len_of}
use Rattle.nodes.specs.Node.{is_leaf, is_list, text_of, children_of}

-- ── over a list ──

-- the texts of all, joined; the numbers of all, added up; whether all pass a test
unfoldable pub join_over : {A : Type 0} → (A → List ℕ) → List A → List ℕ
join_over f [] = []
join_over f (x ∷ xs) = f x ++ join_over f xs

unfoldable pub sum_over : {A : Type 0} → (A → ℕ) → List A → ℕ
sum_over f [] = 0
sum_over f (x ∷ xs) = f x + sum_over f xs

unfoldable pub every : {A : Type 0} → (A → Bool) → List A → Bool
every f [] = true
every f (x ∷ xs) = f x && every f xs

-- ── what lies below a node ──

-- its bytes: a leaf's own, or those of all children in their order
unfoldable pub bytes_below : List ℕ → ℕ → ℕ → List ℕ
bytes_below m zero s = text_of m s
bytes_below m (suc h) s = join_over (λ k. bytes_below m h k.slot) (children_of m s)

-- 1 where the two are one slot, else 0
unfoldable pub hit : ℕ → ℕ → ℕ
hit s x = bit (eqb s x)

-- how often it uses the slot x
unfoldable pub uses : List ℕ → ℕ → ℕ → ℕ → ℕ
unfolding hit
uses m zero s x = hit s x
uses m (suc h) s x = hit s x + sum_over (λ k. uses m h k.slot x) (children_of m s)

-- ── counts ──

-- the counts of a text, as wide as sums are
abbrev pub sum_of : List ℕ → TextSum
sum_of cs = record { bytes = bytes cs; chars = length cs; utf16_surrogates = count_if is_pair cs; line_breaks = breaks cs }

-- the sum of two
abbrev pub plus_sum : TextSum → TextSum → TextSum
plus_sum a b =
    record {
      bytes = a.bytes + b.bytes;
      chars = a.chars + b.chars;
      utf16_surrogates = a.utf16_surrogates + b.utf16_surrogates;
      line_breaks = a.line_breaks + b.line_breaks;
    }

-- the counts that a parent stores are these
abbrev pub tells : TextInfo → TextSum → Bool
tells i s =
    eqb i.bytes s.bytes
    && (eqb i.chars s.chars && (eqb i.utf16_surrogates s.utf16_surrogates && eqb i.line_breaks s.line_breaks))

-- the stored counts of a child of height h are the counted ones
unfoldable pub told_right : List ℕ → ℕ → Kid → Bool
unfolding bytes_below
told_right m h k = tells k.info (sum_of (decode (bytes_below m h k.slot)))

-- ── soundness ──

-- no text ends in CR where the next begins with LF
unfoldable pub seamless : List (List ℕ) → Bool
unfolding cr_last lf_first
seamless [] = true
seamless (a ∷ []) = true
seamless (a ∷ b ∷ cs) = not (cr_last a && lf_first b) && seamless (b ∷ cs)

-- the least size of a node at height h, a leaf's bytes or a list's children: of one that is not the root, and of the root
unfoldable pub least_at : ℕ → ℕ
least_at zero = 128
least_at (suc h) = 4

unfoldable pub least_root : ℕ → ℕ
least_root zero = 0
least_root (suc h) = 2

-- The tree is sound where its own root has at least `least` bytes or children. A leaf: at most 512 bytes (`is_leaf`), and well-formed UTF-8. A
-- list: at most 16 children (`is_list`), each sound and told right, and no seam between two parts a CR from its LF. As no leaf below a list
-- is empty, these are the seams between neighbouring leaves.
unfoldable pub sound : List ℕ → ℕ → ℕ → ℕ → Bool
unfolding is_leaf is_list least_at told_right bytes_below every seamless
sound m least zero s = is_leaf m s && (leb least (len_of m s) && valid_utf8 (text_of m s))
sound m least (suc h) s =
    is_list m s
    && (leb least (len_of m s)
    && (every (λ k. sound m (least_at h) h k.slot && told_right m h k) (children_of m s) && seamless (map (λ k. bytes_below m h k.slot) (children_of m s))))
