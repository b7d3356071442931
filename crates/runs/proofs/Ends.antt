-- Where a run and a preview lie and end, in a well-formed memory: with the leaf or the piece that holds the char at their place, a preview at the
-- insertion place if that is behind q and nearer.
use mathlib.Core.Path.{◌≡◌, refl, sym, ap, subst, ◌∙◌}
use mathlib.Core.Bool.{true}
use mathlib.Core.List.{List, ◌∷◌}
use Prim.Native.Nat.{ℕ, zero, suc, ◌+◌, ◌-◌, ◌≤◌, ◌<◌}
use native.Mathlib.Omega.{arith}
use lib.ListN.{length, take, drop, length-take, length-drop}
use lib.Seq.{length-take-le, take_all, take-take, drop-drop}
use borrow.Author.Tests.{lt-ltb, le-ltb}
use Rattle.plain.specs.Chars.{encode}
use Rattle.plain.specs.Utf8.{valid_utf8, decode}
use Rattle.plain.specs.Count.{count_if}
use Rattle.plain.specs.Place.{is_start}
use Rattle.plain.specs.Edit.{put_in}
use Rattle.plain.specs.Outcome.{Outcome, Outcome.value, past, part, mapped}
use Rattle.plain.proofs.Logic.{cut}
use Rattle.plain.proofs.Outcome.{one-passed}
use Rattle.plain.proofs.Utf8.{valid-sound}
use Rattle.plain.proofs.Text.{chars-encode}
use Rattle.plain.proofs.Place.{byte-of-char}
use Rattle.plain_note.specs.Note.{between, need, read_from, previewed}
use Rattle.text_info.specs.declared.TextSum.{TextSum}
use Rattle.octets.proofs.Over.{part-is}
use Rattle.pool.specs.Slot.{slot_start, len_of, region_of}
use Rattle.pool.specs.declared.Kid.{Kid}
use Rattle.child_search.specs.declared.Measure.TheVariants.{Chars}
use Rattle.nodes.specs.Node.{is_leaf, text_of}
use Rattle.nodes.proofs.Heads.{leaf-says}
use Rattle.nodes.proofs.Laid.{text-lent}
use Rattle.tree.specs.Tree.{hit, uses, sum_over, least_root}
use Rattle.tree.proofs.Frame.{hit-self}
use Rattle.tree.proofs.Lists.{sum-append, sum-cons}
use Rattle.tree.proofs.Sound.{leaf-uses, list-uses}
use Rattle.tree_search.proofs.Way.{Way}
use Rattle.tree_search.proofs.Parted.{ends}
use Rattle.note_head.specs.Head.{n_of, root_of, height_of, own_of}
use Rattle.note_head.proofs.Own.{own-length}
use Rattle.memory.specs.Formed.{well_formed, note_of}
use Rattle.memory.proofs.Formed.{formed, note-called}
use Rattle.leaf_parts.specs.Parts.{byte_in, chars_behind, from_char}
use Rattle.leaf_parts.proofs.Found.{text-is}
use Rattle.leaf_parts.proofs.Fronts.{bytes_left, start_is, front-filled, front-empty}
use Rattle.leaf_parts.proofs.Notes.{note-chars}
use Rattle.runs.specs.Runs.{run_of, front_of, joined_from, preview_of}
use Rattle.runs.specs.Ends.{RestOfLeaf, UpTo, PreviewPart, PreviewPart.below, PreviewPart.within, PreviewPart.beyond, PreviewPart.over}
use Rattle.runs.proofs.Says.{preview-says}
use Rattle.runs.proofs.Fronts.{front-chars, put-length}

-- ── the leaf that a search ends at is in the tree ──

leaf-used : (m : List ℕ) (h s at leaf : ℕ) (before after : List ℕ) → Way m h s Chars at leaf before after → 1 ≤ uses m h s leaf
unfolding Way
leaf-used m zero s at leaf before after w = omega (arith, leaf-uses m s leaf, ap (λ (k : ℕ). hit s k) w.0, hit-self s)
leaf-used m (suc h) s at leaf before after w =
    let f : Kid → ℕ = λ k. uses m h k.slot leaf in
    omega (
      arith,
      list-uses m s h leaf,
      ap (sum_over f) w.children,
      sum-append f w.pre (w.kid ∷ w.post),
      sum-cons f w.kid w.post,
      leaf-used m h w.kid.slot _ leaf w.near w.far w.down,
    )

-- so much of a text as stands before a place
up_to : (p q : ℕ) (r : List ℕ) → q < p → UpTo p q (encode r) (front_of (p - q) (encode r))
up_to p q r h =
    record {
      whole = λ l. front-chars r (p - q) ∙ ap encode (take_all (p - q) r (omega (arith, chars-encode r)));
      nearer = λ l.
          let n : count_if is_start (front_of (p - q) (encode r)) ≡ length (take (p - q) r) = ap (count_if is_start) (front-chars r (p - q)) ∙ chars-encode (take (p - q) r) in
          (refl, omega (arith, n, length-take-le (p - q) r (omega (arith, chars-encode r))));
    }

module _ (m : List ℕ) (ok : well_formed m ≡ true) where
  abbrev own : List ℕ
  own = own_of m

  abbrev text : List ℕ
  text = (note_of m).text

  -- the bytes of a leaf from one of them on, where they lie in the lent memory
  leaf-lies : (s from : ℕ) → is_leaf own s ≡ true → from ≤ len_of own s
      → drop from (text_of own s) ≡ between (slot_start s + 128 + from) (slot_start s + 128 + len_of own s) m
  unfolding own_of
  leaf-lies s from l h =
      let f = formed m ok in
      let k = leaf-says own s l in
      let n = len_of own s in
      let a = slot_start s + 128 in
      let z : a + n - a ≡ n = omega arith in
      let y : a + n - (a + from) ≡ n - from = omega arith in
      let region : text_of own s ≡ take n (drop a own) = sym (text-lent own s a n refl k.2) ∙ ap (λ (i : ℕ). take i (drop a own)) z in
      ap (drop from) region ∙ part-is from n (drop a own) ∙ ap (take (n - from)) (drop-drop from a own ∙ part-is (a + from) (need (n_of m)) m)
      ∙ take-take (n - from) (need (n_of m) - (a + from)) (drop (a + from) m) (omega (arith, k.0, own-length m f.room))
      ∙ ap (λ (i : ℕ). take i (drop (a + from) m)) (sym y)

  rest_at : (at : ℕ) → at < length text → RestOfLeaf m at (from_char own at)
  unfolding from_char
  rest_at at h =
      let k : at ≤ length text = omega arith in
      let e = ends own Chars (height_of own) (root_of own).slot at (least_root (height_of own)) (omega arith) (formed m ok).own.good k in
      let p = e.parted in
      let t = text-is own e.leaf p.is_leaf in
      let from = byte_in (text_of own e.leaf) (at - e.left.chars) in
      let is : from_char own at ≡ drop from (text_of own e.leaf) =
      ap (λ (o : Outcome (ℕ × TextSum)). part (mapped (chars_behind own at) o)) e.is ∙ ap (λ (x : List ℕ). drop (byte_in x (at - e.left.chars)) x) t in
      let inside : from < length (text_of own e.leaf) =
      omega (arith, front-filled text at (from_char own at) (note-chars m ok at k) h, ap length is, length-drop from (text_of own e.leaf)) in
      record {
        slot = e.leaf;
        leaf = p.is_leaf;
        used = leaf-used own (height_of own) (root_of own).slot at e.leaf e.before e.after e.way;
        before = e.before;
        behind = e.after;
        whole = p.whole;
        from = from;
        inside = inside;
        here =
            omega (
              arith,
              start_is own (height_of own) (root_of own).slot at e.leaf e.left e.before e.after p k,
              bytes_left own (height_of own) (root_of own).slot Chars at e.leaf e.left e.before e.after p,
              ap (λ (x : List ℕ). byte_in x (at - e.left.chars)) t,
            );
        is = is;
        lies = is ∙ leaf-lies e.leaf from p.is_leaf (omega (arith, inside, length-take (len_of own e.leaf) (region_of own e.leaf)));
      }

  -- THEOREM: a run ends with the leaf that holds the char at its place
  pub run_ends : (p : ℕ) → p < length (note_of m).text → RestOfLeaf m p (run_of m p)
  unfolding run_of read_from
  run_ends p h =
      let e = note-called m (λ N. read_from N p) ok ∙ one-passed 3 (past p (length text)) (encode (drop p text)) (le-ltb (length text) p (omega arith)) in
      subst (λ (o : Outcome (List ℕ)). RestOfLeaf m p (part (mapped (λ t. from_char (own_of m) p) o))) (sym e) (rest_at p h)

  module _ (p : ℕ) (piece : List ℕ) (q : ℕ) (here : p ≤ length text) (valid : valid_utf8 piece ≡ true) (there : q ≤ length (put_in p (decode piece) text)) where
    abbrev d : List ℕ
    d = decode piece

    abbrev P : List ℕ → Type 0
    P t = PreviewPart m p piece q t

    same : encode d ≡ piece
    same = (valid-sound piece valid).1

    count : count_if is_start piece ≡ length d
    count = ap (count_if is_start) (sym same) ∙ chars-encode d

    size : length (put_in p d text) ≡ length text + length d
    size = put-length text d p q here

    in-below : q < p → P (front_of (p - q) (from_char own q))
    in-below h =
        let f = note-chars m ok q (omega arith) in
        below h (from_char own q) (rest_at q (omega arith))
        (subst (λ (x : List ℕ). UpTo p q x (front_of (p - q) x)) (sym f.is) (up_to p q (take f.count (drop q text)) h))

    in-piece : p ≤ q → q - p < length d → P (drop (byte_in piece (q - p)) piece)
    in-piece h l = within h (omega arith) (ap (λ (k : ℕ). drop k piece) (ap (λ (x : List ℕ). byte_in x (q - p)) (sym same) ∙ byte-of-char d (q - p)))

    in-behind : p ≤ q → length d ≤ q - p → P (from_char own (q - length d))
    in-behind h l =
        cut q (length (put_in p d text))
        (λ k. beyond (omega arith) (rest_at (q - length d) (omega (arith, size))))
        (λ k. over (omega arith) (front-empty text (q - length d) (from_char own (q - length d)) (note-chars m ok (q - length d) (omega (arith, size))) (omega (arith, size))))

    join-ends : P (joined_from own p piece q)
    unfolding joined_from
    join-ends =
        cut q p (λ h. subst (λ (t : List ℕ). P t) (sym (rw (lt-ltb q p h))) (in-below h)) (λ h.
        cut (q - p) (length d)
        (λ l. subst (λ (t : List ℕ). P t) (sym (rw (le-ltb q p h, count, lt-ltb (q - p) (length d) l))) (in-piece h l))
        (λ l. subst (λ (t : List ℕ). P t) (sym (rw (le-ltb q p h, count, le-ltb (q - p) (length d) l))) (in-behind h l)))

  -- THEOREM: a preview ends with the leaf or the piece that holds the char at q, or at the insertion place if that is behind q and nearer
  pub preview-ends : (p : ℕ) (piece : List ℕ) (q : ℕ) (t : List ℕ) → previewed (note_of m) p piece q ≡ value t → PreviewPart m p piece q (preview_of m p piece q)
  unfolding preview_of
  preview-ends p piece q t e =
      let s = preview-says (note_of m) p piece q t e in
      subst (λ (o : Outcome (List ℕ)). PreviewPart m p piece q (part (mapped (λ t. joined_from (own_of m) p piece q) o))) (sym (note-called m (λ N. previewed N p piece q) ok ∙ e))
      (join-ends p piece q s.here s.valid s.there)
