pub mod FaultyFiles
