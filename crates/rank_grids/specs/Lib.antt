pub mod RankGrids
