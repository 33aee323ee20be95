-- No two modules have one number. Assumes nothing.
use mathlib.Core.Path.{◌≡◌, ◌∙◌, refl, sym, ap}
use mathlib.Core.List.{List, [], ◌∷◌}
use Prim.Native.Nat.{ℕ}
use lib.ListN.{get_or}
use Rattle.clocks.specs.declared.module_id.ClockModuleId.{ClockModuleId}
use Rattle.clocks.specs.declared.module_id.ClockModuleId.TheVariants.{Pll, Ddr, Arm, Smc, Qspi, Sdio, Uart, Spi, Pcap, Can, Fpga, Trace, Gem0, Gem1}
use Rattle.clocks.specs.Module.{module_number}

in_order : List ClockModuleId
in_order = Pll ∷ Ddr ∷ Arm ∷ Smc ∷ Qspi ∷ Sdio ∷ Uart ∷ Spi ∷ Pcap ∷ Can ∷ Fpga ∷ Trace ∷ Gem0 ∷ Gem1 ∷ []

back : (m : ClockModuleId) → get_or in_order (module_number m) Pll ≡ m
unfolding in_order
back Pll = refl
back Ddr = refl
back Arm = refl
back Smc = refl
back Qspi = refl
back Sdio = refl
back Uart = refl
back Spi = refl
back Pcap = refl
back Can = refl
back Fpga = refl
back Trace = refl
back Gem0 = refl
back Gem1 = refl

pub same_module : (m n : ClockModuleId) → module_number m ≡ module_number n → m ≡ n
same_module m n e = sym (back m) ∙ ap (λ (k : ℕ). get_or in_order k Pll) e ∙ back n
