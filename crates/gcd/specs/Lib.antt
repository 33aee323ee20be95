-- The greatest common divisor, by what it divides and what divides it. Laws, in proofs/ (a crate above writes Rattle.gcd.proofs.Laws):
-- `unique`; `of_zeros` and `no_divisor`, it is 0 for 0 and 0 alone; `left_over`, what is left after dividing both by it has no common divisor
-- but 1; `exists`; `divides_other`, Euclid's lemma.
pub mod Common
