-- The law of two leaves joined: one leaf with both texts, or two with half of them each. No call needs it; the law of the step does.
use mathlib.Core.Path.{◌≡◌, refl, sym, ap, subst, ◌∙◌}
use mathlib.Core.Bool.{Bool, true, false, ◌||◌, cond}
use mathlib.Core.List.{List, [], ◌∷◌, ◌++◌}
use Prim.Native.Nat.{ℕ, ◌+◌, ◌-◌, ◌≤◌}
use native.Mathlib.Omega.{arith}
use lib.ListN.{length, take, drop, length-append, length-drop, take-append-drop}
use lib.Seq.{length-take-le}
use borrow.Author.Tests.{le-leb, lt-leb, le-ltb}
use Rattle.plain.specs.Utf8.{valid_utf8, decode}
use Rattle.plain.specs.Outcome.{Outcome.value, past}
use Rattle.plain.proofs.Logic.{or-none}
use Rattle.plain.proofs.Outcome.{one-passed}
use Rattle.plain.proofs.Utf8.{valid-append}
use Rattle.leaf_bytes.specs.Split.{half_split}
use Rattle.leaf_bytes.proofs.Split.{half_le, half-breaks, half-sizes}
use Rattle.text_info.specs.Info.{info_of}
use Rattle.text_info.specs.declared.TextInfo.{TextInfo}
use Rattle.node_text.proofs.Parts.{Parted, cut-parted}
use Rattle.pool.specs.Slot.{slot_start, len_of}
use Rattle.nodes.specs.Node.{is_leaf, text_of, children_of, narrowed, total_of, counts_of, leaf_put}
use Rattle.nodes.proofs.Put.{leaf-size, leaf-put, leaf-text, leaf-others, same as node-same}
use Rattle.nodes.proofs.Accepted.{text-length}
use Rattle.tree.specs.Tree.{bytes_below, hit, uses, least_at}
use Rattle.tree.proofs.Sound.{LeafSound, leaf-sound, leaf-bytes, leaf-uses}
use Rattle.merge.specs.Join.{parted, joined_text, joined_kids, joined}
use Rattle.edit_steps.specs.Made.{Made.same, Made.small}
use Rattle.edit_steps.specs.Became.{free, Slotted}
use Rattle.edit_steps.specs.Grown.{Grown, kid, MadeIs}
use Rattle.leaf_step.proofs.Fits.{made_one}
use Rattle.mend_step.proofs.Pairs.{Pair, Merges, Shares, uses-self, slots_apart}
use Rattle.mend_step.proofs.Beside.{grown-as, both-grown}

-- the counts of a leaf are its text's
leaf-counts : (l : List ℕ) (s : ℕ) → is_leaf l s ≡ true → counts_of l s ≡ info_of (decode (text_of l s))
unfolding counts_of
leaf-counts l s e = ap (λ (b : Bool). cond b (info_of (decode (text_of l s))) (narrowed (total_of (children_of l s)))) e

least : least_at 0 ≡ 128
unfolding least_at
least = refl

-- a text written in the slot of a leaf, which is long enough
leaf-grown : (m : List ℕ) (n s : ℕ) (t : List ℕ) → Slotted m n → slot_start s + 640 ≤ length m → free m n s ≡ 0 → length t ≤ 512 → valid_utf8 t ≡ true → 128 ≤ length t
    → Grown m (leaf_put m s t) n 0 (hit s) 0 (kid s (info_of (decode t)) ∷ []) t
leaf-grown m n s t w h f k v l =
    subst (MadeIs m (leaf_put m s t) n 0 (hit s) 0 s t) (ap (λ (b : Bool). cond b (small (info_of (decode t))) (same (info_of (decode t)))) (le-ltb (length t) 128 l)) (made_one m n 0 s t w h f k v)

module _ (m : List ℕ) (n a b : ℕ) (p : Pair m n 0 a b) where
  x : LeafSound m 0 a
  x = leaf-sound m 0 a p.left

  y : LeafSound m 0 b
  y = leaf-sound m 0 b p.right

  abbrev pub t : List ℕ
  t = text_of m a ++ text_of m b

  count : length t ≡ len_of m a + len_of m b
  count = length-append (text_of m a) (text_of m b) ∙ omega (arith, text-length m a x.leaf, text-length m b y.leaf)

  whole : t ≡ bytes_below m 0 a ++ bytes_below m 0 b
  whole = ap (λ (l : List ℕ). l ++ text_of m b) (sym (leaf-bytes m a)) ∙ ap (λ (l : List ℕ). bytes_below m 0 a ++ l) (sym (leaf-bytes m b))

  valid : valid_utf8 t ≡ true
  valid = (valid-append (text_of m a) (text_of m b) x.valid y.valid).0

  used : (z : ℕ) → hit a z + hit b z ≡ uses m 0 a z + uses m 0 b z
  used z = omega (arith, leaf-uses m a z, leaf-uses m b z)

  in-a : slot_start a + 640 ≤ length m
  in-a = omega (arith, p.slotted.long, p.left_there)

  in_b : slot_start b + 640 ≤ length m
  in_b = omega (arith, p.slotted.long, p.right_there)

  taken-a : free m n a ≡ 0
  taken-a = omega (arith, p.once a, uses-self m 0 a)

  joined-text : joined m a b ≡ joined_text m a b t
  unfolding joined
  joined-text = ap (λ (c : Bool). cond c (joined_text m a b t) (joined_kids m a b (children_of m a ++ children_of m b))) x.leaf

  -- ── merged ──

  module _ (few : len_of m a + len_of m b ≤ 512) where
    room : length t ≤ 512
    room = omega (arith, count)

    abbrev merged : List ℕ
    merged = leaf_put m a t

    counts : counts_of merged a ≡ info_of (decode t)
    counts = leaf-counts merged a (leaf-put m a t in-a room) ∙ ap (λ (l : List ℕ). info_of (decode l)) (leaf-text m a t in-a room)

    -- THEOREM: both texts have room in one leaf
    pub leaves-merge : Merges m n 0 a b merged
    leaves-merge =
        record {
          u = hit a;
          parts = used;
          accepted = joined-text ∙ ap (λ (c : Bool). cond c (value (true, merged)) (parted m a b t (half_split t))) (le-leb (length t) 512 room);
          grown =
              subst (λ (i : TextInfo). Grown m merged n 0 (hit a) 0 (kid a i ∷ []) (bytes_below m 0 a ++ bytes_below m 0 b)) (sym counts)
              (subst (λ (l : List ℕ). Grown m merged n 0 (hit a) 0 (kid a (info_of (decode t)) ∷ []) l) whole
              (leaf-grown m n a t p.slotted in-a taken-a room valid (omega (arith, count, p.enough, least))));
        }

  -- ── distributed ──

  module _ (many : 513 ≤ len_of m a + len_of m b) where
    abbrev half : ℕ
    half = half_split t

    abbrev ls : List ℕ
    ls = take half t

    abbrev rs : List ℕ
    rs = drop half t

    sizes : (128 ≤ half) × (half ≤ 512) × (128 ≤ length t - half) × (length t - half ≤ 512)
    sizes = half-sizes t valid (omega (arith, count)) (omega (arith, count, p.most))

    cut : Parted t ls rs
    cut = cut-parted t half valid (half_le t) (half-breaks t valid)

    left-length : length ls ≡ half
    left-length = length-take-le half t (half_le t)

    right-length : length rs ≡ length t - half
    right-length = length-drop half t

    left-few : length ls ≤ 512
    left-few = omega (arith, left-length, sizes.1)

    right-few : length rs ≤ 512
    right-few = omega (arith, right-length, sizes.3)

    abbrev first : List ℕ
    first = leaf_put m a ls

    abbrev last : List ℕ
    last = leaf_put first b rs

    abbrev il : TextInfo
    il = info_of (decode ls)

    abbrev ir : TextInfo
    ir = info_of (decode rs)

    left_grown : Grown m first n 0 (hit a) 0 (kid a il ∷ []) ls
    left_grown = leaf-grown m n a ls p.slotted in-a taken-a left-few cut.joined.left-valid (omega (arith, left-length, sizes.0))

    there : slot_start b + 640 ≤ length first
    there = omega (arith, in_b, leaf-size m a ls in-a left-few)

    taken-b : free first n b ≡ 0
    taken-b = omega (arith, p.once b, uses-self m 0 b, leaf-uses m a b, left_grown.became.conserve b)

    right-grown : Grown first last n 0 (hit b) 0 (kid b ir ∷ []) rs
    right-grown = leaf-grown first n b rs left_grown.became.slotted there taken-b right-few cut.joined.right_valid (omega (arith, right-length, sizes.2))

    left-counts : counts_of last a ≡ il
    left-counts =
        (node-same last first a (leaf-others first b rs there right-few a (slots_apart m n 0 a b p)) (leaf-size first b rs there right-few)).counts
        ∙ leaf-counts first a (leaf-put m a ls in-a left-few)
        ∙ ap (λ (l : List ℕ). info_of (decode l)) (leaf-text m a ls in-a left-few)

    right-counts : counts_of last b ≡ ir
    right-counts = leaf-counts last b (leaf-put first b rs there right-few) ∙ ap (λ (l : List ℕ). info_of (decode l)) (leaf-text first b rs there right-few)

    abbrev Two : TextInfo → TextInfo → Type 0
    Two i j = Grown m last n 0 (λ z. uses m 0 a z + uses m 0 b z) 0 (kid a i ∷ kid b j ∷ []) (bytes_below m 0 a ++ bytes_below m 0 b)

    shared-grown : Two il ir
    shared-grown =
        grown-as m last n 0 (λ z. hit a z + hit b z) (λ z. uses m 0 a z + uses m 0 b z) 0 (kid a il ∷ kid b ir ∷ []) (ls ++ rs) (bytes_below m 0 a ++ bytes_below m 0 b)
        (both-grown m first last n 0 (hit a) (hit b) (kid a il) (kid b ir) ls rs p.slotted left_grown right-grown (λ z. omega (arith, p.once z, used z)) cut.seam) used
        (take-append-drop half t ∙ whole)

    -- THEOREM: else each has half of them
    pub leaves-share : Shares m n 0 a b last
    leaves-share =
        record {
          accepted =
              joined-text
              ∙ ap (λ (c : Bool). cond c (value (true, leaf_put m a t)) (parted m a b t half)) (lt-leb (length t) 512 (omega (arith, count)))
              ∙ one-passed 11 (past half 512 || past (length t - half) 512) (false, last)
              (or-none (past half 512) (past (length t - half) 512) (le-ltb 512 half sizes.1) (le-ltb 512 (length t - half) sizes.3));
          grown = subst (λ (i : TextInfo). Two i (counts_of last b)) (sym left-counts) (subst (λ (j : TextInfo). Two il j) (sym right-counts) shared-grown);
        }
