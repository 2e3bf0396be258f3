mod Steps
mod SavedPages
mod WholeFiles
mod Repeated
