-- The two-stage search of document 01, for its readers in this order:
--     Best      the frequency of a pair, and which pair is best
--     Answer    what the search answers, with its two refusals
-- Laws, in proofs/ (a crate above writes Rattle.two_stage.proofs.Unique):
--     Row       `second_rule` and `best_pair`: what the search of crate nearness finds is the best pair
--     Unique    `same_pair`, one best pair; `unique`, one right answer; `same_answer`, of the Result itself
--     Top       the answer at the largest numbers of all
--     Test      `best_test`, computed, and `sound`: where it passes, the pair is the right answer
pub mod Best
pub mod Answer
