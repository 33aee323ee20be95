-- One reference and baud rate have one result, and one thing is handed back. Assumes nothing.
use Prim.Native.Nat.{ℕ, ◌<◌, ◌^◌}
use Rattle.uart_best.proofs.Laws.{unique}
use Rattle.handing.proofs.Unique.{Single, single, Settled, settled}
use Rattle.c_uart.specs.Tells.{UartTells}

pub one : (reference baud : ℕ) → reference < 2 ^ 32 → baud < 2 ^ 32 → Single (UartTells reference baud)
one reference baud r b = single (λ t u. unique reference baud r b)

pub uart : (reference baud : ℕ) → reference < 2 ^ 32 → baud < 2 ^ 32 → Settled 3 (UartTells reference baud)
uart reference baud r b = settled (one reference baud r b)
