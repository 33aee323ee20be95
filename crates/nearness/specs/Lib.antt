-- What the searches of document 01 mean by near, and by nearest. Definitions:
--     Distance    `distance`, how far apart two frequencies are; `InRange`, 1 to the largest divisor
--     Nearest     `NearestInRow`, nothing nearer for one first divisor; `Nearest`, nothing nearer among pairs, ties by the
--                 smaller first divisor
--     Found       `AtTurn`, what the search of a row finds; `Found`, what the search of all rows finds
-- Laws, in proofs/ (a crate above writes Rattle.nearness.proofs.Rows):
--     Distance    `over` and `under`, by which omega takes a distance as one unknown; `symmetric`, `self`, `zero`
--     Falling     a frequency that falls as the divisor grows: where it turns from reached to missed, and that the nearest
--                 is one of the two beside that turn; `row_falling` and `row_turn` for a reference over c times the divisor
--     Row         the row of a first divisor, by where its ideal second divisor lies
--     Rows        a search by rising first divisor: `start`, `better`, `more`; `one_distance` and `one_first` of two nearest
--     Search      the search's invariant, each row's step, and its end
--     Upto        `upto`, a test computed at each number from 1 to n, and what it says of one of them
pub mod Distance
pub mod Found
pub mod Nearest
