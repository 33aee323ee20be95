-- Exact ratios of clocks: document 02, W-201. Definitions:
--     Lowest    a ratio in lowest terms, and the same turned round
--     Table     what a clock is before any division, one clock to another, and the table of four
-- Laws, in proofs/ (a crate above writes Rattle.ratio_table.proofs.Laws):
--     Lowest    `one_reduced`, one ratio of any two numbers; `turned`, `unscaled`, `within`
--     Entries   `six` and `whole`, the table of four clocks that run
--     Laws      of that table `only`, `diagonal`, `across`, `chained`, `above_zero`, `one_table`; of any four clocks `one_six`, `one_mirrored`
pub mod Lowest
pub mod Table
