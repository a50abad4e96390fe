use Rattle.std.proofs.Common.{◌^◌, arith}
use Rattle.runs.specs.Boxes.{Positive}
use Rattle.runs.proofs.Digits.{walk_below, walk_digits, walk_room, walk_fits, walk_place}
use Rattle.runs.proofs.Rows.{positive_each}
use Rattle.runs.proofs.walks.RowsIterator.next.Goals as goal

pub advance-requires : goal.advance-requires
advance-requires c =
    let s = c.args.self.now in
    let w = s.walk in
    let ks = s.radices in
    let n = s.number in
    let pos : Positive ks = positive_each ks (λ i l. s.some i (omega (arith, s.six))) in
    record {
      below = walk_below ks n w.at pos s.at_digits;
      reached = (walk_room ks n w.at pos s.at_digits s.from.start w.from s.from.strides s.from_place, walk_room ks n w.at pos s.at_digits s.to.start w.to s.to.strides s.to_place);
      fits = (
        walk_fits ks n w.at pos s.at_digits s.from.start w.from s.from.strides s.from_place (2 ^ 64) s.from_within,
        walk_fits ks n w.at pos s.at_digits s.to.start w.to s.to.strides s.to_place (2 ^ 64) s.to_within,
      );
    }

pub invariant_of-self : goal.invariant_of-self
invariant_of-self c =
    let s = c.args.self.now in
    let w = s.walk in
    let ks = s.radices in
    let n = s.number in
    let r = c.advance.new.self in
    let e = c.advance.ensures in
    let pos : Positive ks = positive_each ks (λ i l. s.some i (omega (arith, s.six))) in
    record {
      six = s.six;
      some = s.some;
      from_within = s.from_within;
      to_within = s.to_within;
      some_left = omega (arith, s.some_left, c.if-self.false);
      at_digits = walk_digits ks n w.at pos s.at_digits r.at e.at;
      from_place = walk_place ks n w.at pos s.at_digits s.from.start w.from s.from.strides s.from_place r.from e.from;
      to_place = walk_place ks n w.at pos s.at_digits s.to.start w.to s.to.strides s.to_place r.to e.to;
    }
