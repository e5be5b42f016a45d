pub mod PackageTable
pub mod StmtTable
