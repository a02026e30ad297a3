pub mod FileLists
pub mod WrittenFiles
pub mod NotedCalls
