-- A call that tests a bound by itself asks nothing of its caller. `Within` says what it promises on either side of the bound; the laws
-- `kept` and `past`, in proofs/ (a crate above writes Rattle.bounds.proofs.Bound), come to it from one side.
pub mod Within
