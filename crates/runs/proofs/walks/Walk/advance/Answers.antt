use Rattle.std.proofs.Common.{◌≡◌, ◌+◌, length, sym, ap, ◌∙◌, arith}
use Rattle.runs.specs.Boxes.{dot, next_digits}
use Rattle.shapes.proofs.Numbering.{below_getD}
use Rattle.runs.proofs.Digits.{digit_is, room, stop_list, stop_place, carry_list, carry_next_digits, carry_place, next_digits_none}
use Rattle.runs.proofs.walks.Walk.advance.Goals as goal

pub overflow_add-digit : goal.overflow_add-digit
overflow_add-digit c =
    let i = c.loop-i.invariant in
    let la : length c.args.self.now.at ≡ length c.args.radices.now = omega arith in
    let b = below_getD c.args.radices.now c.args.self.now.at c.loop-i.i 0 0 c.requires.below (omega arith) in
    omega (arith, digit_is c.args.radices.now c.args.from.now c.args.self.now.at c.loop-i.self.at c.loop-i.i c.loop-i.self.from c.args.self.now.from la (omega arith) (omega arith) i.0 i.1 i.2 c.requires.reached.0)

pub overflow_add-self-then-digit-radix : goal.overflow_add-self-then-digit-radix
overflow_add-self-then-digit-radix c =
    let i = c.loop-i.invariant in
    omega (arith, stop_place c.args.radices.now c.args.from.now c.args.self.now.at c.loop-i.self.at c.loop-i.i c.loop-i.self.from c.args.self.now.from (omega arith) (omega arith) (omega arith) i.0 i.1 i.2 c.requires.reached.0 c.if-digit-radix.true)

pub overflow_add-self-then-digit-radix-2 : goal.overflow_add-self-then-digit-radix-2
overflow_add-self-then-digit-radix-2 c =
    let i = c.loop-i.invariant in
    omega (arith, stop_place c.args.radices.now c.args.to.now c.args.self.now.at c.loop-i.self.at c.loop-i.i c.loop-i.self.to c.args.self.now.to (omega arith) (omega arith) (omega arith) i.0 i.1 i.3 c.requires.reached.1 c.if-digit-radix.true)

pub returns-then-digit-radix : goal.returns-then-digit-radix
returns-then-digit-radix c =
    let i = c.loop-i.invariant in
    record {
      at = stop_list c.args.radices.now c.args.from.now c.args.self.now.at c.loop-i.self.at c.loop-i.i c.loop-i.self.from c.args.self.now.from (omega arith) (omega arith) (omega arith) i.0 i.1 i.2 c.requires.reached.0 c.if-digit-radix.true;
      from = stop_place c.args.radices.now c.args.from.now c.args.self.now.at c.loop-i.self.at c.loop-i.i c.loop-i.self.from c.args.self.now.from (omega arith) (omega arith) (omega arith) i.0 i.1 i.2 c.requires.reached.0 c.if-digit-radix.true;
      to = stop_place c.args.radices.now c.args.to.now c.args.self.now.at c.loop-i.self.at c.loop-i.i c.loop-i.self.to c.args.self.now.to (omega arith) (omega arith) (omega arith) i.0 i.1 i.3 c.requires.reached.1 c.if-digit-radix.true;
    }

pub overflow_sub-self : goal.overflow_sub-self
overflow_sub-self c =
    let i = c.loop-i.invariant in
    room c.args.radices.now c.args.from.now c.args.self.now.at c.loop-i.self.at c.loop-i.i c.loop-i.self.from c.args.self.now.from (omega arith) (omega arith) (omega arith) i.0 i.1 i.2 c.requires.reached.0

pub overflow_mul-self : goal.overflow_mul-self
overflow_mul-self c =
    let i = c.loop-i.invariant in
    omega (arith, room c.args.radices.now c.args.from.now c.args.self.now.at c.loop-i.self.at c.loop-i.i c.loop-i.self.from c.args.self.now.from (omega arith) (omega arith) (omega arith) i.0 i.1 i.2 c.requires.reached.0)

pub overflow_sub-self-in-loop-i : goal.overflow_sub-self-in-loop-i
overflow_sub-self-in-loop-i c =
    let i = c.loop-i.invariant in
    room c.args.radices.now c.args.to.now c.args.self.now.at c.loop-i.self.at c.loop-i.i c.loop-i.self.to c.args.self.now.to (omega arith) (omega arith) (omega arith) i.0 i.1 i.3 c.requires.reached.1

pub overflow_mul-self-in-loop-i : goal.overflow_mul-self-in-loop-i
overflow_mul-self-in-loop-i c =
    let i = c.loop-i.invariant in
    omega (arith, room c.args.radices.now c.args.to.now c.args.self.now.at c.loop-i.self.at c.loop-i.i c.loop-i.self.to c.args.self.now.to (omega arith) (omega arith) (omega arith) i.0 i.1 i.3 c.requires.reached.1)

pub loop-i-preserved : goal.loop-i-preserved
loop-i-preserved c =
    let i = c.loop-i.invariant in (
      carry_list c.args.radices.now c.args.from.now c.args.self.now.at c.loop-i.self.at c.loop-i.i c.loop-i.self.from c.args.self.now.from (omega arith) (omega arith) (omega arith) i.0 i.1 i.2 c.requires.reached.0,
      carry_next_digits c.args.radices.now c.args.from.now c.args.self.now.at c.loop-i.self.at c.loop-i.i c.loop-i.self.from c.args.self.now.from (omega arith) (omega arith) (omega arith) i.0 i.1 i.2 c.requires.reached.0 c.if-digit-radix.false,
      carry_place c.args.radices.now c.args.from.now c.args.self.now.at c.loop-i.self.at c.loop-i.i c.loop-i.self.from c.args.self.now.from (omega arith) (omega arith) (omega arith) i.0 i.1 i.2 c.requires.reached.0,
      carry_place c.args.radices.now c.args.to.now c.args.self.now.at c.loop-i.self.at c.loop-i.i c.loop-i.self.to c.args.self.now.to (omega arith) (omega arith) (omega arith) i.0 i.1 i.3 c.requires.reached.1,
      omega arith,
      omega arith,
    )

pub returns : goal.returns
returns c =
    let i = c.loop-i.invariant in
    let e : c.loop-i.self.at ≡ next_digits c.args.radices.now c.args.self.now.at = i.0 ∙ sym (i.1 ∙ next_digits_none c.args.radices.now c.args.self.now.at c.loop-i.i (omega arith) (omega arith)) in
    record {
      at = e;
      from = i.2 ∙ ap (λ z. c.args.self.now.from + dot c.args.from.now z) e;
      to = i.3 ∙ ap (λ z. c.args.self.now.to + dot c.args.to.now z) e;
    }
