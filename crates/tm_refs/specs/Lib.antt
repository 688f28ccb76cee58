pub mod Local
pub mod Looks
pub mod Standings
pub mod Solved
pub mod Serves
pub mod Rounds
pub mod Leaves
pub mod Pointees
