-- Laws of the grids of ranks.
pub mod CellByCellLaws
pub mod RankGridLaws
