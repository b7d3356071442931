-- `put_lines` meets its contract.
use Rattle.answer.proofs.Opened.{raised}
use mathlib.Core.Path.{◌≡◌, sym}
use native.Mathlib.Omega.{arith}
use lib.ListN.{length}
use lib.Seq.{length-take-le}
use Rattle.listing_end.proofs.Lines.{lined-refused, lined-done}
use Rattle.listing_end.proofs.put_lines.Goals as goal

pub slice_bounds-convert_all-end-2 : goal.slice_bounds-convert_all-end-2
slice_bounds-convert_all-end-2 c =
    let put = c.put_places-n in
    let same : length put.new.out ≡ length c.args.out.now = put.auto.out in
    sym (length-take-le put.result put.new.out (omega (arith, same, put.ensures.0, c.requires)))

pub returns-in_err-convert_all : goal.returns-in_err-convert_all
returns-in_err-convert_all c = rw (raised c.from_residual.ensures.1) (
    let a = c.args in
    let put = c.put_places-n in
    let turned = c.convert_all in
    lined-refused a.m.now a.out.now put.new.out put.result put.ensures.1 _ _ turned.ensures _ c.in_err-convert_all.was _)

pub returns : goal.returns
returns c =
    let a = c.args in
    let put = c.put_places-n in
    let turned = c.convert_all in
    lined-done a.m.now a.out.now put.new.out put.result put.ensures.1 _ _ turned.ensures c.in_ok-convert_all.was
