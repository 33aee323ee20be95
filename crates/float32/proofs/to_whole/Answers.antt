-- From 0.5 to below 65,535.5 the pattern gives the whole halves; below and above that the answer is an end.
use lib.Ieee.{of_bits}
use Rattle.float32.proofs.Halves.{between, no_nan, rounds, beyond, under}
use Rattle.float32.proofs.to_whole.Goals as goal

pub float_to_bits-bits : goal.float_to_bits-bits
unfolding of_bits
float_to_bits-bits c = no_nan _ (between _ c.if-x.true c.if-x-2.true)

pub overflow_sub-halves : goal.overflow_sub-halves
unfolding of_bits
overflow_sub-halves c = (rounds _ (between _ c.if-x.true c.if-x-2.true)).exponent

pub overflow_shr-halves : goal.overflow_shr-halves
unfolding of_bits
overflow_shr-halves c = (rounds _ (between _ c.if-x.true c.if-x-2.true)).shift

pub returns-then-x-2 : goal.returns-then-x-2
unfolding of_bits
returns-then-x-2 c = (rounds _ (between _ c.if-x.true c.if-x-2.true)).is

pub returns-then-x : goal.returns-then-x
unfolding of_bits
returns-then-x c = beyond _ c.if-x.true c.if-x-2.false

pub returns : goal.returns
unfolding of_bits
returns c = under _ c.if-x.false
