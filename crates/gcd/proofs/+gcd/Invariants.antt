-- Euclid's rule ends: its second number falls at each call.
use Rattle.gcd.proofs.+gcd.Given as goal

abbrev pub decreases-gcd : goal.decreases-gcd
decreases-gcd l = l.b
