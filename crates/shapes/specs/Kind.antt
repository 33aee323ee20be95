-- What a byte of a shape asks for.
use Rattle.std.specs.Prelude.{ℕ, cond, eqb}
use Rattle.shapes.specs.declared.kind.Kind.{Kind}
use Rattle.shapes.specs.declared.kind.Kind.TheVariants.{Register, Speed, Pll, Flag, Byte, HalfWord, Number}

-- `w` is a word of eight hex digits, `s` a speed of the I2C bus, `p` a PLL, `f`, `b` and `h` a number of one bit, eight or sixteen, and any
-- other byte a number
abbrev pub kind_of : ℕ → Kind
kind_of c =
    cond (eqb c 119) Register
    (cond (eqb c 115) Speed
    (cond (eqb c 112) Pll
    (cond (eqb c 102) Flag
    (cond (eqb c 98) Byte
    (cond (eqb c 104) HalfWord
    Number)))))
