use Rattle.shapes.proofs.Numbering.{number_weighted, number_below, digits_number, digits_below, number_digits}
use Rattle.shapes.proofs.laws.numbers_count_digits.Goals as goal

pub returns : goal.returns
returns c = record {
  sum = number_weighted;
  below = λ ks xs b. (number_below ks xs b, digits_number ks xs b);
  back = λ ks s h. (digits_below ks s h, number_digits ks s h);
}
