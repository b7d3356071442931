-- The law of an edit that fits in its leaf: one leaf with the edited text, as good as any child, or good but for its size.
use mathlib.Core.Path.{◌≡◌, refl, sym, ap, subst, ◌∙◌}
use mathlib.Core.Bool.{Bool, true, cond}
use mathlib.Core.List.{List, [], ◌∷◌}
use Prim.Native.Nat.{ℕ, ◌+◌, ◌-◌, ◌≤◌, ◌<◌}
use native.Mathlib.Omega.{arith}
use lib.ListN.{length, take}
use borrow.Author.Tests.{lt-ltb, le-ltb}
use Rattle.plain_note.specs.Note.{head_size}
use Rattle.plain.specs.Utf8.{valid_utf8, decode}
use Rattle.plain.specs.Edit.{replaced}
use Rattle.plain.specs.Outcome.{Outcome.value, mapped}
use Rattle.plain.proofs.Logic.{cut}
use Rattle.plain.proofs.Edit.{replaced-length}
use Rattle.text_info.specs.Info.{info_of}
use Rattle.text_info.specs.declared.TextInfo.{TextInfo}
use Rattle.text_info.proofs.Counts.{raw-text}
use Rattle.leaf_bytes.proofs.Calls.{replace-done}
use Rattle.node_text.proofs.Rules.{Meets}
use Rattle.node_text.proofs.Parts.{boundary-le, replaced-text}
use Rattle.pool.specs.Slot.{slot_start, slot_of, len_of, region_of}
use Rattle.pool.proofs.Slots.{region-length}
use Rattle.nodes.specs.Node.{is_leaf, text_of, leaf_put}
use Rattle.nodes.specs.Calls.{leaf_replaced}
use Rattle.nodes.proofs.Heads.{leaf-says}
use Rattle.nodes.proofs.Copied.{replace-is}
use Rattle.nodes.proofs.Put.{leaf-size, leaf-put, leaf-text, leaf-others, leaf-front}
use Rattle.nodes.proofs.Accepted.{text-length}
use Rattle.tree.specs.Tree.{seamless, least_at, hit}
use Rattle.tree.proofs.Frame.{hit-self}
use Rattle.edit_steps.specs.Became.{free, Slotted, Became}
use Rattle.edit_steps.specs.Grown.{Grown, Shrunk, kid, MadeIs}
use Rattle.edit_steps.specs.Made.{Made, Made.same, Made.small, sized}
use Rattle.leaf_step.specs.Steps.{one_leaf, leaf_fit}
use Rattle.leaf_step.proofs.Kept.{free-kept, slotted_kept, spare-kept, same-n, same-free, same-front, same_rest}
use Rattle.leaf_step.proofs.Told.{bytes-are, len_is, leaf-good, leaf-told, leaf-fine, one-uses, one-bytes, one-fine}

-- ── a leaf written in the slot of a leaf ──

module _ (m : List ℕ) (n d s : ℕ) (t : List ℕ) (w : Slotted m n) (h : slot_start s + 640 ≤ length m) (used : free m n s ≡ 0) (few : length t ≤ 512) (valid : valid_utf8 t ≡ true) where
  abbrev later : List ℕ
  later = leaf_put m s t

  abbrev info : TextInfo
  info = info_of (decode t)

  front : take head_size later ≡ take head_size m
  front = leaf-front m s t h few

  free-alike : (x : ℕ) → 1 ≤ free m n x → slot_of later x ≡ slot_of m x
  free-alike x l = leaf-others m s t h few x (λ q. omega (arith, ap (free m n) q ∙ used))

  free-same : (x : ℕ) → free later n x ≡ free m n x
  free-same = free-kept m later n w (leaf-size m s t h few) (same-n m later front) (same-free m later front) free-alike

  became-one : Became m later n d (hit s) 0 (kid s info ∷ []) t
  became-one =
      record {
        slotted = slotted_kept m later n w (leaf-size m s t h few) (same-n m later front) (same-free m later front) free-alike;
        conserve = λ x. omega (arith, one-uses later (kid s info) x, free-same x);
        reads = one-bytes later (kid s info) t (bytes-are later s t (leaf-put m s t h few) (leaf-text m s t h few) valid);
        only = λ x z. leaf-others m s t h few x (λ q. omega (arith, ap (hit s) q ∙ hit-self s));
        front = same-front m later front;
        rest = same_rest m later front;
        spent = omega (arith, spare-kept m later n w (leaf-size m s t h few) (same-n m later front) (same-free m later front) free-alike);
      }

  grown-one : 128 ≤ length t → Grown m later n d (hit s) 0 (kid s info ∷ []) t
  unfolding seamless
  grown-one l = record { became = became-one; each = one-fine later (kid s info) (leaf-fine later s t (leaf-put m s t h few) (leaf-text m s t h few) valid l); seams = refl }

  shrunk-one : length t < 128 → Shrunk m later n d (hit s) 0 (kid s info) t
  unfolding least_at
  shrunk-one l =
      record {
        became = became-one;
        good = leaf-good later s t (leaf-put m s t h few) (leaf-text m s t h few) valid 0 (omega arith);
        told = leaf-told later s t (leaf-put m s t h few) (leaf-text m s t h few) valid;
        few = omega (arith, len_is later s t (leaf-put m s t h few) (leaf-text m s t h few) valid);
      }

  said : (b : Made) → sized 128 (length t) info ≡ b → MadeIs m later n d (hit s) 0 s t b → MadeIs m later n d (hit s) 0 s t (sized 128 (length t) info)
  said b e p = subst (MadeIs m later n d (hit s) 0 s t) (sym e) p

  pub made_one : MadeIs m later n d (hit s) 0 s t (sized 128 (length t) info)
  made_one =
      cut (length t) 128
      (λ l. said (small info) (ap (λ (b : Bool). cond b (small info) (same info)) (lt-ltb (length t) 128 l)) (shrunk-one l))
      (λ l. said (same info) (ap (λ (b : Bool). cond b (small info) (same info)) (le-ltb (length t) 128 l)) (grown-one l))

-- ── the edit ──

module _ (m : List ℕ) (n s i e : ℕ) (piece : List ℕ) (w : Slotted m n) (leaf : is_leaf m s ≡ true) (used : free m n s ≡ 0) (call : Meets (region_of m s) (len_of m s) i e piece)
    (room : i + length piece + (len_of m s - e) ≤ 512) where
  abbrev new : List ℕ
  new = replaced i e piece (text_of m s)

  there : slot_start s + 640 ≤ length m
  there = (leaf-says m s leaf).0

  replaced-leaf : leaf_replaced m s i e piece ≡ value new
  replaced-leaf =
      let size = region-length m s there in
      let b = boundary-le (text_of m s) e call.end in
      let long = text-length m s leaf in
      replace-is m s i e piece (len_of m s) leaf refl
      ∙ replace-done (region_of m s) (len_of m s) i e piece call.order (omega arith) (omega (arith, call.small)) (omega (arith, call.small, call.order))

  new-length : length new ≤ 512
  new-length =
      omega (arith, replaced-length i e piece (text_of m s) call.order (boundary-le (text_of m s) e call.end), text-length m s leaf)

  new-valid : valid_utf8 new ≡ true
  new-valid = (replaced-text (text_of m s) call.leaf-valid i e piece call.start call.end call.piece-valid).0

  pub fit-value : leaf_fit m s i e piece ≡ value (sized 128 (length new) (info_of (decode new)), leaf_put m s new)
  unfolding leaf_fit
  fit-value = ap (mapped (one_leaf m s)) replaced-leaf ∙ ap (λ (j : TextInfo). value (sized 128 (length new) j, leaf_put m s new)) (raw-text new new-valid)

  -- THEOREM: it makes one leaf of the leaf
  pub fit-made : (d : ℕ) → MadeIs m (leaf_put m s new) n d (hit s) 0 s new (sized 128 (length new) (info_of (decode new)))
  fit-made d = made_one m n d s new w there used new-length new-valid
