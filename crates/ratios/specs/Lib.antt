-- Exact ratios between the four PL clocks of an image: document 02, W-201. Definitions:
--     PlClocks    what PL clock i is before any division
--     Checked     what the check call tells, and which table a crystal and an image have
-- Laws, in proofs/ (a crate above writes Rattle.ratios.proofs.Laws):
--     Laws        `unique` and `one_check`, one table and one answer to the check; `tied`, how the two go together
--     Checking    `accepted_runs`, by which the laws of crate ratio_table hold of an accepted image
--     Crystal     `any_crystal`, two crystals that are both accepted have one table; `small`, how large its numbers are
pub mod Checked
pub mod PlClocks
