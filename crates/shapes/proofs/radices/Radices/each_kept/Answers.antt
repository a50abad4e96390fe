use Rattle.std.proofs.Common.{◌≡◌, length, get_or, if◌then◌else◌, false, slice_index_or, sym, ◌∙◌, arith, rules}
use borrow.Author.Tests.{tests}
use Rattle.shapes.specs.Arrays.{radix}
use Rattle.shapes.proofs.Made.{made_from_fn}
use Rattle.shapes.proofs.Radixes.{length-radix, radix_at}
use Rattle.shapes.proofs.radices.Radices.each_kept.Goals as goal

pub returns : goal.returns
returns c =
    let ks = c.args.self.now in
    let g = c.args.group in
    let long : length g ≡ length ks.each = omega (arith, ks.six) in
    made_from_fn _ (λ i. if slice_index_or g i false then get_or ks.each i 0 else 1) 0 c.from_fn.result (radix g ks.each) c.from_fn.ensures.items (length-radix g ks.each long ∙ ks.six) (λ i y q l k. search (rules, tests)) (λ i l. sym (radix_at g ks.each i long (omega (arith, ks.six))))
