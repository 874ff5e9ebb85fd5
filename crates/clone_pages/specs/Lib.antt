-- A region's backed pages counted, and tables that are alike for a region.
pub mod BackedPages
pub mod BackedPagesLaws
pub mod Alike
pub mod AlikeLaws
